-- What is put is the text, and what stays stands behind it.
use mathlib.Core.Path.{sym, ap, ap₂, ◌∙◌}
use mathlib.Core.List.{◌++◌}
use native.Mathlib.Omega.{arith}
use lib.ListN.{length, take-append-drop}
use Rattle.text_write.specs.theory.Mapped.{written_mapped}
use Rattle.text_write.specs.theory.Answered.{too_long, fits}
use Rattle.text_write.proofs.Backwards.{ends_size}
use Rattle.text_write.proofs.writer.write_mapped.Goals as goal

pub returns-then-out-ends : goal.returns-then-out-ends
returns-then-out-ends c =
    let k = c.args.key in
    let w = written_mapped k.high k.low c.requires in
    too_long k c.args.out.now (omega (arith, ap length w, ends_size c.decimal_ends-ends.ensures, c.if-out-ends.true))

pub returns : goal.returns
returns c =
    let k = c.args.key in
    let b = c.args.out.now in
    let n = c.put_mapped.result in
    let w = written_mapped k.high k.low c.requires in
    let f = c.put_mapped.ensures in
    fits k b n c.put_mapped.new.text (f.1 ∙ ap length (sym w))
    (sym (take-append-drop n c.put_mapped.new.text) ∙ ap₂ ◌++◌ (f.0.is ∙ sym w) f.0.kept)
    (omega (arith, f.1, ends_size c.decimal_ends-ends.ensures, c.if-out-ends.false))
