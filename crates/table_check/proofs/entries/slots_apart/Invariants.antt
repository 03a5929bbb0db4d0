-- Every slot passed has an entry of its own.
use mathlib.Core.Path.{◌≡◌}
use mathlib.Core.Bool.{true}
use Prim.Native.Nat.{ℕ, ◌<◌}
use Rattle.table.specs.Decode.{decode}
use Rattle.table_read.specs.Steps.{slots_in}
use Rattle.table_check.specs.Entries.{alone, slots_after}
use Rattle.table_check.proofs.entries.slots_apart.Given as goal

abbrev pub invariant-loop-j : goal.invariant-loop-j
invariant-loop-j l = (k : ℕ) → k < l.j → alone l.g (slots_in l.g l.t l.b) (slots_after l.g l.most (decode l.g l.t).overflow l.way) k ≡ true
