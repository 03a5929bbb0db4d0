-- The test decides which of the two texts is put: `written_mapped`, `written_plain`.
use mathlib.Core.Path.{sym, ◌∙◌}
use native.Mathlib.Omega.{arith}
use Rattle.text_write.specs.WriterSteps.{key_groups}
use Rattle.text_write.specs.theory.Mapped.{written_mapped, written_plain, mapped_length}
use Rattle.text_write.specs.theory.Stores.{kept_later}
use Rattle.text_write.proofs.Backwards.{ends_size}
use Rattle.text_write.proofs.writer.put_text.Goals as goal

pub put_mapped-requires : goal.put_mapped-requires
put_mapped-requires c =
    let e = c.decimal_ends.ensures in
    (e, omega (arith, ends_size e, mapped_length c.args.key.low, c.requires))

pub returns-then-is_mapped : goal.returns-then-is_mapped
returns-then-is_mapped c =
    let a = c.args in
    let k = a.key in
    let e = c.put_mapped.ensures in
    let n = mapped_length k.low in
    rw (written_mapped k.high k.low (sym c.is_mapped.ensures ∙ c.if-is_mapped.true))
    (record {
      within = omega (arith, e.1);
      is = e.0.is;
      kept = kept_later a.text.now c.put_mapped.new.text c.put_mapped.result 40 (omega (arith, e.1)) e.0.kept;
    })

pub returns : goal.returns
unfolding key_groups
returns c =
    let k = c.args.key in
    rw (written_plain k.high k.low (sym c.is_mapped.ensures ∙ c.if-is_mapped.false)) c.put_hexadecimal.ensures
