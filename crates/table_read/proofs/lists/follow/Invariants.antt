-- The last block from here on, with the blocks that are left, is that of the whole list.
use mathlib.Core.Path.{◌≡◌}
use Prim.Native.Nat.{◌-◌}
use Rattle.table.specs.Decode.{decode}
use Rattle.table_read.specs.Steps.{last_from}
use Rattle.table_read.proofs.lists.follow.Given as goal

abbrev pub invariant-loop : goal.invariant-loop
invariant-loop l =
    last_from l.g l.i.0 (l.g.nob - l.counter) (decode l.g l.t).overflow l.b.0 ≡ last_from l.g l.i.0 l.g.nob (decode l.g l.t).overflow l.fn.first.0
