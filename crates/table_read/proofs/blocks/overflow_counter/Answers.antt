-- The field is that of the decoded state.
use mathlib.Core.Path.{◌∙◌}
use native.Mathlib.Omega.{arith}
use Rattle.table_read.specs.theory.Places.{over_in}
use Rattle.table_read.specs.theory.Reads.{overflow_counter_field}
use Rattle.table_read.proofs.blocks.overflow_counter.Goals as goal

pub counter_of-requires : goal.counter_of-requires
counter_of-requires c = over_in c.args.g c.args.t.now c.requires.0 0 (omega arith) c.args.j.0 c.requires.1

pub returns : goal.returns
returns c = c.counter_of.ensures ∙ overflow_counter_field c.args.g c.args.t.now c.requires.0 c.args.j.0 c.requires.1
