-- The field is that of the decoded state.
use mathlib.Core.Path.{◌∙◌}
use native.Mathlib.Omega.{arith}
use Rattle.table_read.specs.theory.Places.{over_in}
use Rattle.table_read.specs.theory.Reads.{link_field}
use Rattle.table_read.proofs.blocks.overflow_link.Goals as goal

pub link_of-requires : goal.link_of-requires
link_of-requires c = over_in c.args.g c.args.t.now c.requires.0 c.args.g.link (omega arith) c.args.j.0 c.requires.1

pub returns : goal.returns
returns c = c.link_of.ensures ∙ link_field c.args.g c.args.t.now c.requires.0 c.args.j.0 c.requires.1
