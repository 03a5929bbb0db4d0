-- The class table's rule, at all of its entries by one test that is computed.
use Prim.Native.Nat.{ℕ, ◌≤◌, ◌<◌}
use mathlib.Core.Path.{◌≡◌}
use native.Mathlib.Nat.{lt_of_lt_of_le}
use mathlib.Core.Bool.{Bool}
use mathlib.Core.List.{List}
use lib.Dec.{T, eqb, eqb→eq}
use lib.ListN.{length, get_or}
use Rattle.laws.specs.Tables.{every_from, at}
use Rattle.text_read.specs.Class.{class_of}

unfoldable pub right : ℕ → ℕ → Bool
right b k = eqb k (class_of b)

pub class_right : (t : List ℕ) → 256 ≤ length t → T (every_from right 0 t) → (b : ℕ) → b < 256 → get_or t b 0 ≡ class_of b
unfolding right
class_right t l h b k = eqb→eq (get_or t b 0) (class_of b) (at right t h b (lt_of_lt_of_le k l))
