-- A list without damage has a counter of at most sib + 1, which says how its slots are read.
use native.Mathlib.Omega.{arith}
use Rattle.table.specs.Decode.{decode}
use Rattle.table_cursor.proofs.Begin.{over, begins_short}
use Rattle.table_cursor.proofs.walk.enter.Goals as goal

pub returns-then-front-g : goal.returns-then-front-g
returns-then-front-g c =
    begins_short c.args.g c.args.t.now c.requires.0 c.args.i c.requires.2 c.basic_front-front.result.counter c.basic_run-run.result
    c.basic_front-front.ensures.0 c.if-front-g.true c.basic_run-run.ensures

pub enter_long-requires : goal.enter_long-requires
enter_long-requires c =
    let o = over c.args.g (decode c.args.g c.args.t.now) c.args.i.0 (c.requires.1 c.args.i.0 c.requires.2)
    _ _ c.basic_front-front.ensures.0 (omega (arith, c.if-front-g.false)) c.basic_front-front.ensures.1 in
    (c.requires.0, c.requires.2, o.0, o.1)
