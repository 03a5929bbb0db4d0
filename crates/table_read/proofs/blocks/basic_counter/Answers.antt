-- The field is that of the decoded state.
use mathlib.Core.Path.{◌∙◌}
use native.Mathlib.Omega.{arith}
use Rattle.table_read.specs.theory.Places.{basic_in}
use Rattle.table_read.specs.theory.Reads.{basic_counter_field}
use Rattle.table_read.proofs.blocks.basic_counter.Goals as goal

pub counter_of-requires : goal.counter_of-requires
counter_of-requires c = basic_in c.args.g c.args.t.now c.requires.0 0 (omega arith) c.args.i.0 c.requires.1

pub returns : goal.returns
returns c = c.counter_of.ensures ∙ basic_counter_field c.args.g c.args.t.now c.requires.0 c.args.i.0 c.requires.1
