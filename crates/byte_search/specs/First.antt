-- Where the first byte stands of which a test is true.
use Rattle.std.specs.Prelude.{◌≡◌, ℕ, suc, ◌+◌, ◌<◌, List, [], ◌∷◌, Bool, cond, drop}

-- the number of bytes before the first of which p is true, or of all bytes where there is none
unfoldable pub before : (ℕ → Bool) → List ℕ → ℕ
before p [] = 0
before p (x ∷ s) = cond (p x) 0 (suc (before p s))

-- the place of the first byte at `at` or after it of which p is true
unfoldable pub first_from : (ℕ → Bool) → List ℕ → ℕ → ℕ
first_from p s at = at + before p (drop at s)

-- a test whose calls are post answers p of each byte
abbrev pub Says : (ℕ → Bool → Type 0) → (ℕ → Bool) → Type 0
Says post p = (x : ℕ) (r : Bool) → x < 256 → post x r → r ≡ p x
