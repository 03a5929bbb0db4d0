-- The test decides.
use mathlib.Core.Path.{sym, ◌∙◌}
use Rattle.text_write.proofs.writer.write.Goals as goal

pub write_mapped-requires : goal.write_mapped-requires
write_mapped-requires c = sym c.is_mapped.ensures ∙ c.if-is_mapped.true

pub write_hexadecimal-requires : goal.write_hexadecimal-requires
write_hexadecimal-requires c = sym c.is_mapped.ensures ∙ c.if-is_mapped.false
