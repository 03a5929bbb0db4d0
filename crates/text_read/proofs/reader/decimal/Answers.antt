-- The first byte that is no digit ends the decimal; three digits are the most, and none follows a leading zero.
use mathlib.Core.Path.{◌∙◌, sym}
use native.Mathlib.Omega.{arith}
use Rattle.text_read.proofs.Fields.{decimal_none, decimal_one, decimal_zero, decimal_two, decimal_over, decimal_three}
use Rattle.text_read.proofs.reader.decimal.Goals as goal

pub returns-then-a-gt9 : goal.returns-then-a-gt9
returns-then-a-gt9 c =
    let k = c.args in
    sym (decimal_none k.text.now k.at c.class_at-a.result c.class_at-a.ensures c.if-a-gt9.true)

pub returns-then-b-gt9 : goal.returns-then-b-gt9
returns-then-b-gt9 c =
    let k = c.args in
    c.ended.ensures ∙ sym (decimal_one k.text.now k.at c.class_at-a.result c.class_at-a.ensures (omega arith) c.class_at-b.result c.class_at-b.ensures c.if-b-gt9.true)

pub returns-then-a-eq0 : goal.returns-then-a-eq0
returns-then-a-eq0 c =
    let k = c.args in
    sym (decimal_zero k.text.now k.at c.class_at-a.result c.class_at-a.ensures (omega arith) c.class_at-b.result c.class_at-b.ensures (omega arith) c.if-a-eq0.true)

pub returns-then-c-gt9 : goal.returns-then-c-gt9
returns-then-c-gt9 c =
    let k = c.args in
    c.ended-then-c-gt9.ensures ∙ sym (decimal_two k.text.now k.at c.class_at-a.result c.class_at-a.ensures (omega arith) c.class_at-b.result c.class_at-b.ensures (omega arith) c.if-a-eq0.false c.class_at-c.result c.class_at-c.ensures c.if-c-gt9.true)

pub returns-then-value-gt255 : goal.returns-then-value-gt255
returns-then-value-gt255 c =
    let k = c.args in
    sym (decimal_over k.text.now k.at c.class_at-a.result c.class_at-a.ensures (omega arith) c.class_at-b.result c.class_at-b.ensures (omega arith) c.if-a-eq0.false c.class_at-c.result c.class_at-c.ensures (omega arith) c.if-value-gt255.true)

pub returns : goal.returns
returns c =
    let k = c.args in
    c.ended-2.ensures ∙ sym (decimal_three k.text.now k.at c.class_at-a.result c.class_at-a.ensures (omega arith) c.class_at-b.result c.class_at-b.ensures (omega arith) c.if-a-eq0.false c.class_at-c.result c.class_at-c.ensures (omega arith) c.if-value-gt255.false c.class_at.result c.class_at.ensures)
