-- The block is zeroed but for its link, with no owner, and becomes the free start.
use Rattle.table_delete.proofs.DeleteLaws.{stored_free_block}
use Rattle.table_delete.proofs.shrink.free_block.Goals as goal

pub returns : goal.returns
returns c =
    let f = c.free_start-f in
    stored_free_block c.args.g c.args.t.now c.requires.0 c.args.j.0 f.result.0 _ c.requires.1 f.ensures c.link_free.ensures _ _
    c.empty_block.ensures c.put_free_start.ensures
