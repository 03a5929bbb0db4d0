-- The free start stands first.
use Rattle.table_store.specs.Stores.{free_put}
use Rattle.table_store.proofs.fields.put_free_start.Goals as goal

pub returns : goal.returns
unfolding free_put
returns c = c.put.ensures
