-- The free start stands first.
use Rattle.table.specs.Decode.{decode}
use Rattle.table_read.proofs.blocks.free_start.Goals as goal

pub returns : goal.returns
unfolding decode
returns c = c.short_field.ensures
