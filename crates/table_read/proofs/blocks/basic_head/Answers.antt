-- The field is that of the decoded state.
use mathlib.Core.Path.{◌∙◌}
use native.Mathlib.Omega.{arith}
use Rattle.table_read.specs.theory.Places.{basic_in}
use Rattle.table_read.specs.theory.Reads.{head_field}
use Rattle.table_read.proofs.blocks.basic_head.Goals as goal

pub link_of-requires : goal.link_of-requires
link_of-requires c = basic_in c.args.g c.args.t.now c.requires.0 c.args.g.link (omega arith) c.args.i.0 c.requires.1

pub returns : goal.returns
returns c = c.link_of.ensures ∙ head_field c.args.g c.args.t.now c.requires.0 c.args.i.0 c.requires.1
