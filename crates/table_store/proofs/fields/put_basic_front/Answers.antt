-- The first fields of a block of the table.
use native.Mathlib.Omega.{arith}
use Rattle.table.specs.Decode.{basic_slots}
use Rattle.table_read.specs.theory.Places.{basic_in}
use Rattle.table_store.specs.Stores.{basic_counter_put, head_put}
use Rattle.table_store.specs.theory.Fronts.{stored_basic_front}
use Rattle.table_store.proofs.fields.put_basic_front.Goals as goal

pub put_front-requires : goal.put_front-requires
put_front-requires c =
    (basic_in c.args.g c.args.t.now c.requires.0 c.args.g.link (omega arith) c.args.i.0 c.requires.1, omega (arith, c.requires.2, c.requires.0.proper.basic_holds), c.requires.3)

pub returns : goal.returns
unfolding basic_counter_put head_put basic_slots
returns c =
    stored_basic_front c.args.g c.args.t.now c.requires.0 _ c.args.i.0 c.args.n c.args.h c.requires.1 c.requires.2 c.requires.3 c.put_front.ensures
