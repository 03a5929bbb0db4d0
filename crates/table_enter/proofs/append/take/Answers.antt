-- Three stores in a row.
use native.Mathlib.Omega.{arith}
use Rattle.keys.specs.Key.{key_number}
use Rattle.table_read.specs.theory.Places.{overflow_slot_ends}
use Rattle.table_store.specs.theory.StoreLaws.{table_kept, slot_asks, slot_put_lem, slot_lt}
use Rattle.table_enter.proofs.AppendLaws.{stored_take}
use Rattle.table_enter.proofs.append.take.Goals as goal

pub empty_block-requires : goal.empty_block-requires
empty_block-requires c =
    (c.requires.0, c.requires.2, c.requires.3, omega (arith, c.requires.1, c.requires.0.proper.lists_low))

pub put_slot-requires : goal.put_slot-requires
unfolding key_number
put_slot-requires c =
    let F = c.requires.0.proper in
    let p = c.overflow_slot in
    slot_asks c.args.g c.empty_block.new.t c.empty_block.ensures.table p.result _ _
    (omega (arith, p.ensures, overflow_slot_ends c.args.g F c.args.free.number.0 c.requires.2 0 F.sio_low))
    c.requires.5

pub put_free_start-requires : goal.put_free_start-requires
put_free_start-requires c =
    (table_kept _ c.put_slot.auto.t c.empty_block.ensures.table, omega (arith, c.requires.4, c.requires.0.proper.free_holds))

pub returns : goal.returns
unfolding key_number
returns c =
    let g = c.args.g in
    let v = c.args.v in
    let p = c.overflow_slot in
    stored_take g c.args.t.now c.requires.0 c.args.i.0 c.args.free.number.0 c.args.displaced c.args.free.next.0 _ c.requires.2 c.requires.4
    (slot_lt g c.requires.0.proper (key_number v.entry) v.label c.requires.5) _ _ _ _
    c.empty_block.ensures
    p.ensures
    (slot_put_lem g c.requires.0.proper _ _ _ _ c.put_slot.ensures)
    c.put_free_start.ensures
