-- The fields are those of the decoded state.
use mathlib.Core.Path.{◌∙◌}
use native.Mathlib.Omega.{arith}
use Rattle.table_read.specs.theory.Places.{basic_in}
use Rattle.table_read.specs.theory.Reads.{basic_counter_field, head_field}
use Rattle.table_read.proofs.blocks.basic_front.Goals as goal

pub front_of-requires : goal.front_of-requires
front_of-requires c = basic_in c.args.g c.args.t.now c.requires.0 c.args.g.link (omega arith) c.args.i.0 c.requires.1

pub returns : goal.returns
returns c =
    (c.front_of.ensures.0 ∙ basic_counter_field c.args.g c.args.t.now c.requires.0 c.args.i.0 c.requires.1, c.front_of.ensures.1 ∙ head_field c.args.g c.args.t.now c.requires.0 c.args.i.0 c.requires.1)
