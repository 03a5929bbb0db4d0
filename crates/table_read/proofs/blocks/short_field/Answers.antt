-- A field of no bits is 0.
use mathlib.Core.Path.{sym, ap, ◌∙◌}
use Rattle.bits.specs.Field.{field}
use Rattle.bits.specs.theory.Fields.{field_zero}
use Rattle.table_read.proofs.blocks.short_field.Goals as goal

pub returns-then-n-eq0 : goal.returns-then-n-eq0
returns-then-n-eq0 c =
    let s = c.args in
    sym (ap (field s.t.now s.at) c.if-n-eq0.true ∙ field_zero s.t.now s.at)
