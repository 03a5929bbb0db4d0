-- Rows of slots, and slots of a row that do not have certain bits. Only contracts of functions cite these.
use Rattle.std.specs.Prelude.{◌≡◌, Bool, false, List, ℕ, ◌+◌, ◌*◌, ◌≤◌, ◌<◌, length}
use Rattle.settings.specs.Legal.{most_bits}
use Rattle.bits.specs.Field.{field}

-- a block at bit `start` with room for `room` slots of `slot` bits, whose entries are their first `bie` bits
pub record Row (t : List ℕ) (start slot bie room : ℕ) : Type 0 where
  pub ends : start + room * slot ≤ 8 * length t
  pub near : start + room * slot ≤ most_bits
  pub few : room ≤ 255
  pub some : 0 < bie
  pub wide : bie ≤ 128
  pub fits : bie ≤ slot
  pub slim : slot ≤ 160

-- n bits of each of `count` slots, those of slot 0 at bit `at`, with `step` bits from one slot to the next
module _ (t : List ℕ) (at step n q count : ℕ) where
  -- none of the slots before slot r has the bits q
  pub record Unlike (r : ℕ) : Type 0 where
    pub high : r ≤ count
    pub before : (k : ℕ) → k < r → field t (at + k * step) n ≡ q → ⊥

-- of `count` slots, whose windows are at places `at`, `at + step` and so on: the test of a window can have answered false at each before that
-- of slot r
pub record Passed (answers : ℕ → Bool → Type 0) (at step count r : ℕ) : Type 0 where
  pub high : r ≤ count
  pub before : (k : ℕ) → k < r → answers (at + k * step) false
