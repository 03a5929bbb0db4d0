-- Slot m of the blocks from b on is slot n of all of them; a block's slots are passed by taking their count off m.
use mathlib.Core.Path.{◌≡◌}
use Prim.Native.Nat.{◌-◌}
use Rattle.table.specs.Decode.{decode}
use Rattle.table_read.specs.Steps.{Followed, gather_from}
use Rattle.table_record.specs.RecordSteps.{nth_of}
use Rattle.table_record.proofs.nth_blocks.Given as goal

abbrev pub invariant-loop-q : goal.invariant-loop-q
invariant-loop-q l =
    Followed l.g (l.g.nob - l._q) (decode l.g l.t).overflow l.b.0
    × (nth_of l.g (gather_from l.g (l.g.nob - l._q) (decode l.g l.t).overflow l.b.0) l.m ≡ nth_of l.g (gather_from l.g l.g.nob (decode l.g l.t).overflow l.fn.first.0) l.n)
