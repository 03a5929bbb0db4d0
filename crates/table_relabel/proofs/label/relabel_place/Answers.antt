-- By where the place is, and where its label begins.
use Prim.Native.Nat.{◌+◌}
use native.Mathlib.Omega.{arith}
use Rattle.std.proofs.Common.{rules}
use Rattle.table.specs.theory.Changes.{bits_high}
use Rattle.table_read.specs.theory.Reads.{basic_room}
use Rattle.table_relabel.proofs.LabelLaws.{label_ends, relabelled_plain}
use Rattle.table_relabel.proofs.label.relabel_place.Goals as goal

pub overflow_add-begin : goal.overflow_add-begin
overflow_add-begin c =
    let g = c.args.g in
    omega (arith, label_ends c.requires (c.basic_slot.result + g.bie) (omega (arith, c.basic_slot.ensures)) c.if-p-g.false, bits_high g c.requires.table.proper)

pub overflow_add-basic_slots : goal.overflow_add-basic_slots
overflow_add-basic_slots c =
    let F = c.requires.table.proper in
    omega (arith, c.basic_slots.ensures, basic_room c.args.g c.args.t.now c.requires.table c.args.i.0 c.requires.list, F.link_high, F.bie_high, bits_high c.args.g F)

pub put-requires-clause-within : goal.put-requires-clause-within
put-requires-clause-within c =
    let g = c.args.g in
    let T = c.requires.table in
    let l = label_ends c.requires (c.basic_slot.result + g.bie) (omega (arith, c.basic_slot.ensures)) c.if-p-g.false in
    record { ends = omega (arith, l, T.room); width = omega (arith, T.proper.val_high) }

pub returns : goal.returns
returns c =
    relabelled_plain c.requires (λ j. search rules) c.if-p-g.false (omega (arith, c.if-begin-basic_slots.false, c.basic_slots.ensures, c.basic_slot.ensures))
    _ (omega (arith, c.basic_slot.ensures)) _ (rw c.from.ensures at c.put.ensures)
