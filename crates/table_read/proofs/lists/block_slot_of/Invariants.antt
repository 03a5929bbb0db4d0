-- The place from here on, less the slots of the blocks passed, is that of the whole list.
use Rattle.table.specs.Decode.{decode}
use Rattle.table_read.specs.theory.BlockSlots.{Going}
use Rattle.table_read.proofs.lists.block_slot_of.Given as goal

abbrev pub invariant-loop-q : goal.invariant-loop-q
invariant-loop-q l = Going l.g (decode l.g l.t).overflow l.fn.first.0 l.p l.b.0 l.q

abbrev pub decreases-loop-q : goal.decreases-loop-q
decreases-loop-q l = l.q
