-- The place is a slot of an overflow block, whose label is put.
use native.Mathlib.Omega.{arith}
use Rattle.table.specs.theory.Changes.{bits_high}
use Rattle.table_relabel.proofs.LabelLaws.{SlotAt, reaches, slot_at, slot_ends, relabelled_overflow}
use Rattle.table_relabel.proofs.label.relabel_overflow.Goals as goal
use Rattle.table_relabel.proofs.label.relabel_overflow.Goals.{After-block_slot_of-s}

-- the slot that was reached
at : (c : After-block_slot_of-s) → SlotAt c.requires.0 c.requires.1 c.block_slot_of-s.result
at c = slot_at c.requires.0 c.requires.1 _ c.basic_head.ensures _ c.block_slot_of-s.ensures

pub block_slot_of-s-requires : goal.block_slot_of-s-requires
block_slot_of-s-requires c = (c.requires.0.table, reaches c.requires.0 c.requires.1 _ c.basic_head.ensures)

pub overflow_slot-at-requires : goal.overflow_slot-at-requires
overflow_slot-at-requires c = let s = at (goal.at.overflow_slot-at-requires c).After-block_slot_of-s in (c.requires.0.table.proper, s.low, s.few)

pub overflow_add-at : goal.overflow_add-at
overflow_add-at c =
    let l = slot_ends c.requires.0 c.requires.1 _ (at (goal.at.overflow_add-at c).After-block_slot_of-s) _ c.overflow_slot-at.ensures in
    omega (arith, l, bits_high c.args.g c.requires.0.table.proper)

pub put-requires-clause-within : goal.put-requires-clause-within
put-requires-clause-within c =
    let T = c.requires.0.table in
    let l = slot_ends c.requires.0 c.requires.1 _ (at (goal.at.put-requires-clause-within c).After-block_slot_of-s) _ c.overflow_slot-at.ensures in
    record { ends = omega (arith, l, T.room); width = omega (arith, T.proper.val_high) }

pub returns : goal.returns
returns c =
    relabelled_overflow c.requires.0 c.requires.1 _ (at (goal.at.returns c).After-block_slot_of-s) _ c.overflow_slot-at.ensures _ (rw c.from.ensures at c.put.ensures)
