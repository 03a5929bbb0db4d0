-- The bits passed are zero.
use mathlib.Core.Path.{◌≡◌}
use Prim.Native.Nat.{◌≤◌}
use Rattle.bits.specs.Field.{field}
use Rattle.table_check.proofs.bytes.zeros.Given as goal

abbrev pub invariant-loop-k : goal.invariant-loop-k
invariant-loop-k l = (l.k ≤ l.n) × (field l.t l.at l.k ≡ 0)
