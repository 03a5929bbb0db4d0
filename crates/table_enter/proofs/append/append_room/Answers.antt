-- The slot and the counter, in a row.
use mathlib.Core.Path.{ap, ◌∙◌}
use native.Mathlib.Omega.{arith}
use Rattle.keys.specs.Key.{key_number}
use Rattle.table.specs.Answer.{said}
use Rattle.table.specs.declared.answers.Word.TheVariants as word
use Rattle.table_read.specs.theory.Places.{basic_slot_ends}
use Rattle.table_store.specs.theory.StoreLaws.{table_kept, slot_asks, slot_put_lem, slot_lt}
use Rattle.table_enter.proofs.AppendLaws.{append_room}
use Rattle.table_enter.proofs.append.append_room.Goals as goal

pub basic_slot-requires : goal.basic_slot-requires
basic_slot-requires c =
    (c.requires.0.table.proper, c.requires.0.list, c.requires.1)

pub put_slot-requires : goal.put_slot-requires
unfolding key_number
put_slot-requires c =
    let a = c.args in
    let q = slot_asks a.g a.t.now c.requires.0.table c.basic_slot.result (key_number a.v.entry) a.v.label
    (omega (arith, c.basic_slot.ensures, basic_slot_ends a.g c.requires.0.table.proper a.i.0 c.requires.0.list a.c c.requires.1))
    c.requires.0.slotted in
    (omega (arith, q.0), omega (arith, q.1), omega (arith, q.2), omega (arith, q.3), omega (arith, q.4), omega (arith, q.5))

pub overflow_add-c : goal.overflow_add-c
overflow_add-c c =
    omega (arith, c.requires.1, c.requires.0.table.proper.sib_high)

pub put_basic_counter-requires : goal.put_basic_counter-requires
put_basic_counter-requires c =
    (table_kept _ c.put_slot.auto.t c.requires.0.table, c.requires.0.list, omega (arith, c.requires.1, c.requires.0.table.proper.basic_holds))

pub basic_number-requires : goal.basic_number-requires
basic_number-requires c =
    (c.requires.0.table.proper, c.requires.0.list, c.requires.1)

pub returns : goal.returns
unfolding key_number
returns c =
    let g = c.args.g in
    let T = c.requires.0.table in
    let v = c.args.v in
    append_room g c.args.t.now T (λ j. omega (arith, c.slice_known-1.given j)) c.args.i.0 v c.requires.0.list
    (slot_lt g T.proper (key_number v.entry) v.label c.requires.0.slotted) c.args.c c.requires.1 c.requires.2 _ _ _ _
    c.basic_slot.ensures
    (slot_put_lem g T.proper _ _ _ _ c.put_slot.ensures)
    c.put_basic_counter.ensures
    (c.added.ensures ∙ ap (said word.Added _ _) c.basic_number.ensures)
