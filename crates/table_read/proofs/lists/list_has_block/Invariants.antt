-- The list goes on at block b, and the answer is the same from there.
use mathlib.Core.Path.{◌≡◌}
use Prim.Native.Nat.{◌-◌}
use Rattle.table.specs.Decode.{decode}
use Rattle.table_read.specs.Steps.{Followed}
use Rattle.table_read.specs.BlockSlots.{has_block}
use Rattle.table_read.proofs.lists.list_has_block.Given as goal

abbrev pub invariant-loop : goal.invariant-loop
invariant-loop l =
    Followed l.g (l.g.nob - l.counter) (decode l.g l.t).overflow l.b.0
    × (has_block l.g (l.g.nob - l.counter) (decode l.g l.t).overflow l.b.0 l.f.0 ≡ has_block l.g l.g.nob (decode l.g l.t).overflow l.fn.first.0 l.f.0)
