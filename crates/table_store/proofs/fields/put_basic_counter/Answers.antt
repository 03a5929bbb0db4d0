-- The counter of a block of the table.
use native.Mathlib.Omega.{arith}
use Rattle.table_read.specs.theory.Places.{basic_in}
use Rattle.table_store.specs.Stores.{basic_counter_put}
use Rattle.table_store.proofs.fields.put_basic_counter.Goals as goal

pub put_counter-requires : goal.put_counter-requires
put_counter-requires c = (basic_in c.args.g c.args.t.now c.requires.0 0 (omega arith) c.args.i.0 c.requires.1, c.requires.2)

pub returns : goal.returns
unfolding basic_counter_put
returns c = c.put_counter.ensures
