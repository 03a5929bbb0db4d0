-- Words of the contracts that speak of the classes of a text's bytes.
use Rattle.std.specs.Prelude.{◌≡◌, ℕ, ◌+◌, cond, List, length, get_or, ltb}
use Rattle.text_read.specs.Class.{class_of, colon}

-- the class of the byte at i; the end of the text is as good as a byte of class e
unfoldable pub class_at : ℕ → List ℕ → ℕ → ℕ
class_at e s i = cond (ltb i (length s)) (class_of (get_or s i 0)) e

-- the classes of the five bytes from i on, where the end of the text is as good as a colon
pub record Five (s : List ℕ) (i a b c d e : ℕ) : Type 0 where
  pub one : a ≡ class_at colon s i
  pub two : b ≡ class_at colon s (i + 1)
  pub three : c ≡ class_at colon s (i + 2)
  pub four : d ≡ class_at colon s (i + 3)
  pub five : e ≡ class_at colon s (i + 4)
