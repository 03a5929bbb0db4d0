-- n entries were passed, and with those from here on, in the blocks that are left, they are those of all blocks.
use mathlib.Core.Path.{◌≡◌}
use Prim.Native.Nat.{◌-◌, ◌*◌, ◌≤◌}
use Rattle.table.specs.Decode.{decode}
use Rattle.table.specs.Follow.{follow, own_blocks}
use Rattle.table_cursor.specs.Survey.{blocks_length}
use Rattle.table_cursor.proofs.LengthLaws.{plus}
use Rattle.table_cursor.proofs.count.blocks_length.Given as goal

abbrev pub invariant-loop-k : goal.invariant-loop-k
invariant-loop-k l =
    (l.n ≤ l._k * 15)
    × (plus l.n (blocks_length l.g (decode l.g l.t).overflow (own_blocks l.i.0 (decode l.g l.t).overflow (follow l.g (l.g.nob - l._k) (decode l.g l.t).overflow l.b.0)))
    ≡ blocks_length l.g (decode l.g l.t).overflow (own_blocks l.i.0 (decode l.g l.t).overflow (follow l.g l.g.nob (decode l.g l.t).overflow l.fn.first.0)))
