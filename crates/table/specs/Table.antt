-- The lent bytes t hold a table of the layout g: what the functions on a table are called with. And bytes that differ within a range of bits only.
use Rattle.std.specs.Prelude.{◌≡◌, ◌⊎◌, List, ℕ, ◌+◌, ◌*◌, ◌≤◌, ◌<◌, length}
use Rattle.bits.specs.Bytes.{Bytes}
use Rattle.bits.specs.Field.{bit_at}
use Rattle.settings.specs.Proper.{Proper}
use Rattle.settings.specs.declared.layout.Layout.{Layout}
use Rattle.table.specs.declared.step.Before.{Before}
use Rattle.table.specs.declared.step.Before.TheVariants as prior

pub record Table (g : Layout) (t : List ℕ) : Type 0 where
  pub proper : Proper g
  pub room : g.bits ≤ 8 * length t

-- u is t with nothing changed outside the n bits from a on
pub record Only (t u : List ℕ) (a n : ℕ) : Type 0 where
  pub long : length u ≡ length t
  pub bytes : Bytes t → Bytes u
  pub out : (j : ℕ) → (j < a) ⊎ (a + n ≤ j) → bit_at u j ≡ bit_at t j

-- if an overflow block stands before, it is one of the table
abbrev pub Within : Layout → Before → Type 0
Within g prior.Basic = Unit {0}
Within g (prior.Block p) = p.0 < g.nob
