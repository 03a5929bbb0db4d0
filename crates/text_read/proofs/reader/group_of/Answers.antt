-- The first byte that is no digit ends the group; four digits are the most.
use mathlib.Core.Path.{◌∙◌, sym}
use native.Mathlib.Omega.{arith}
use Rattle.text_read.proofs.Fields.{digits_below, digit_above, group_none, group_short, group_four}
use Rattle.text_read.proofs.reader.group_of.Goals as goal

pub returns-then-a-b-lt16 : goal.returns-then-a-b-lt16
returns-then-a-b-lt16 c =
    let l = digits_below c.args.a c.args.b c.args.c c.args.d c.if-a-b-lt16.true in
    c.ended.ensures ∙ sym (group_four c.args.text.now c.args.at c.args.a c.args.b c.args.c c.args.d c.args.e c.requires.0 l.0 l.1 l.2 l.3)

pub returns-then-a-gt15 : goal.returns-then-a-gt15
returns-then-a-gt15 c =
    sym (group_none c.args.text.now c.args.at c.args.a c.args.b c.args.c c.args.d c.args.e c.requires.0 c.if-a-gt15.true)

pub returns : goal.returns
returns c =
    c.ended-2.ensures ∙ sym (group_short c.args.text.now c.args.at c.args.a c.args.b c.args.c c.args.d c.args.e _ _ _ c.requires.0 (omega arith) (λ l m. digit_above c.args.a c.args.b c.args.c c.args.d c.if-a-b-lt16.false (omega arith) l m) c.by_length-value.ensures c.by_length-count.ensures c.by_length-end.ensures)
