-- The key has a list in the table, and its entry is found there or not.
use Rattle.table_find.specs.theory.SoughtLaws.{placed_at, sought_as}
use Rattle.table_find.proofs.seek.Goals as goal

pub place-place-requires : goal.place-place-requires
place-place-requires c = (placed_at c.args.s c.args.key c.args.t.now c.requires).place

pub find_in-found-requires : goal.find_in-found-requires
find_in-found-requires c =
    rw c.place-place.ensures (placed_at c.args.s c.args.key c.args.t.now c.requires).find

pub returns : goal.returns
returns c =
    sought_as c.args.s c.args.key c.args.t.now c.requires c.place-place.result c.find_in-found.result c.place-place.ensures c.find_in-found.ensures
