-- By the room in the last block.
use mathlib.Core.Path.{ap, ◌∙◌}
use native.Mathlib.Omega.{arith}
use Rattle.keys.specs.Key.{key_number}
use Rattle.table.specs.Answer.{said}
use Rattle.table.specs.declared.answers.Word.TheVariants as word
use Rattle.table_read.specs.theory.Places.{overflow_slot_ends}
use Rattle.table_store.specs.theory.StoreLaws.{table_kept, slot_asks, slot_put_lem, slot_lt}
use Rattle.table_enter.proofs.AppendLaws.{append_last}
use Rattle.table_enter.proofs.append.append_overflow.Goals as goal

pub overflow_slot-requires : goal.overflow_slot-requires
overflow_slot-requires c = (c.requires.0.table.proper, c.requires.1.low, c.if-n-g.true)

pub put_slot-requires : goal.put_slot-requires
unfolding key_number
put_slot-requires c =
    slot_asks c.args.g c.args.t.now c.requires.0.table c.overflow_slot.result _ _
    (omega (arith, c.overflow_slot.ensures, overflow_slot_ends c.args.g c.requires.0.table.proper c.args.j.0 c.requires.1.low _ c.if-n-g.true))
    c.requires.0.slotted

pub put_overflow_counter-requires : goal.put_overflow_counter-requires
put_overflow_counter-requires c =
    (table_kept _ c.put_slot.auto.t c.requires.0.table, c.requires.1.low, omega (arith, c.if-n-g.true, c.requires.0.table.proper.overflow_holds))

pub overflow_number-requires : goal.overflow_number-requires
overflow_number-requires c =
    (c.requires.0.table.proper, c.requires.1.low, c.if-n-g.true)

pub returns-then-n-g : goal.returns-then-n-g
unfolding key_number
returns-then-n-g c =
    let g = c.args.g in
    let T = c.requires.0.table in
    let v = c.args.v in
    append_last g c.args.t.now T (λ j. omega (arith, c.slice_known-1.given j)) c.args.i.0 v c.requires.0.list
    (slot_lt g T.proper (key_number v.entry) v.label c.requires.0.slotted) c.args.h.0 c.args.j.0 c.requires.1 c.args.n
    c.requires.2 c.if-n-g.true _ _ _ _
    c.overflow_slot.ensures
    (slot_put_lem g T.proper _ _ _ _ c.put_slot.ensures)
    c.put_overflow_counter.ensures
    (c.added.ensures ∙ ap (said word.Added _ _) c.overflow_number.ensures)

pub append_more-requires : goal.append_more-requires
append_more-requires c =
    (c.requires.0, c.requires.1, omega (arith, c.if-n-g.false, c.requires.2))
