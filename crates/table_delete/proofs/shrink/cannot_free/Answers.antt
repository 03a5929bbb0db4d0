-- A block with more than one slot is not freed; else the free start decides.
use mathlib.Core.Path.{ap}
use lib.Dec.{ltb}
use borrow.Author.Tests.{lt-ltb, le-ltb}
use Rattle.table.specs.Delete.{cannot_free}
use Rattle.table_delete.proofs.shrink.cannot_free.Goals as goal

pub returns-then-n-gt0 : goal.returns-then-n-gt0
unfolding cannot_free
returns-then-n-gt0 c = rw (lt-ltb 0 c.args.n c.if-n-gt0.true)

pub returns : goal.returns
unfolding cannot_free
returns c =
    let a = c.args in
    rw (le-ltb 0 a.n c.if-n-gt0.false) (ap (ltb a.g.nob) c.free_start.ensures)
