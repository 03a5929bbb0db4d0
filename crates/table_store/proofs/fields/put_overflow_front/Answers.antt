-- The first fields of a block of the table.
use native.Mathlib.Omega.{arith}
use Rattle.table.specs.Decode.{link_at}
use Rattle.table_read.specs.theory.Places.{over_in}
use Rattle.table_store.specs.Stores.{overflow_counter_put, link_put}
use Rattle.table_store.specs.theory.Fronts.{stored_overflow_front}
use Rattle.table_store.proofs.fields.put_overflow_front.Goals as goal

pub put_front-requires : goal.put_front-requires
put_front-requires c =
    (over_in c.args.g c.args.t.now c.requires.0 c.args.g.link (omega arith) c.args.j.0 c.requires.1, omega (arith, c.requires.2, c.requires.0.proper.overflow_holds), c.requires.3)

pub returns : goal.returns
unfolding overflow_counter_put link_put link_at
returns c =
    stored_overflow_front c.args.g c.args.t.now c.requires.0 _ c.args.j.0 c.args.n c.args.l c.requires.1 c.requires.2 c.requires.3 c.put_front.ensures
