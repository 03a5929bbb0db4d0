-- The counter of a block of the table.
use native.Mathlib.Omega.{arith}
use Rattle.table_read.specs.theory.Places.{over_in}
use Rattle.table_store.specs.Stores.{overflow_counter_put}
use Rattle.table_store.proofs.fields.put_overflow_counter.Goals as goal

pub put_counter-requires : goal.put_counter-requires
put_counter-requires c = (over_in c.args.g c.args.t.now c.requires.0 0 (omega arith) c.args.j.0 c.requires.1, c.requires.2)

pub returns : goal.returns
unfolding overflow_counter_put
returns c = c.put_counter.ensures
