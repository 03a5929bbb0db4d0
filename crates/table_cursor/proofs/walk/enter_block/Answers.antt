-- The block's slots, and those of the blocks behind it, are those from it on.
use native.Mathlib.Omega.{arith}
use Rattle.table.specs.Decode.{decode}
use Rattle.table_read.specs.theory.Walks.{OneStep, one_step}
use Rattle.table_cursor.proofs.Begin.{begins_block}
use Rattle.table_cursor.proofs.walk.enter_block.Goals as goal
use Rattle.table_cursor.proofs.walk.enter_block.Goals.{Start}

here : (a : Start) → OneStep a.args.g (decode a.args.g a.args.t.now).overflow a.args.g.nob a.args.b.0
here a = one_step _ _ _ _ a.requires.2

pub overflow_front-front-requires : goal.overflow_front-front-requires
overflow_front-front-requires c = (c.requires.0, (here (goal.at.overflow_front-front-requires c).Start).low)

pub overflow_run-run-requires : goal.overflow_run-run-requires
overflow_run-run-requires c =
    (c.requires.0.proper, (here (goal.at.overflow_run-run-requires c).Start).low, omega (arith, (here (goal.at.overflow_run-run-requires c).Start).count, c.overflow_front-front.ensures.0))

pub returns : goal.returns
returns c =
    begins_block c.args.g c.args.t.now c.requires.0 c.args.i c.requires.1 c.args.b.0 c.overflow_front-front.result.counter c.overflow_front-front.result.link
    c.overflow_run-run.result c.requires.2 c.overflow_front-front.ensures.0 c.overflow_front-front.ensures.1 c.overflow_run-run.ensures _ c.step_of.ensures
