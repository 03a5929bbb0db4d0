-- A list without overflow blocks has one run.
use mathlib.Core.Path.{refl}
use native.Mathlib.Omega.{arith}
use Rattle.table.specs.Decode.{decode}
use Rattle.table.specs.declared.step.Step.TheVariants as step
use Rattle.table_cursor.proofs.Begin.{cursor, over, begins_short}
use Rattle.table_cursor.proofs.Toward.{toward_first, toward_here, run_last}
use Rattle.table_cursor.proofs.walk.at.Goals as goal

pub returns-then-front-g : goal.returns-then-front-g
returns-then-front-g c =
    let g = c.args.g in
    let t = c.args.t.now in
    let i = c.args.i in
    let n = c.args.n in
    let d = cursor i 0 c.basic_run-run.result step.Last in
    let T = toward_first g t i n d
    (begins_short g t c.requires.0 i c.requires.2 c.basic_front-front.result.counter c.basic_run-run.result c.basic_front-front.ensures.0 c.if-front-g.true c.basic_run-run.ensures)
    c.requires.3 in
    toward_here g t i n d n T (run_last g t i n d n T refl) c.requires.2 c.requires.3 n refl

pub at_long-requires : goal.at_long-requires
at_long-requires c =
    let o = over c.args.g (decode c.args.g c.args.t.now) c.args.i.0 (c.requires.1 c.args.i.0 c.requires.2)
    _ _ c.basic_front-front.ensures.0 (omega (arith, c.if-front-g.false)) c.basic_front-front.ensures.1 in
    (c.requires.0, c.requires.2, o.0, o.1, c.requires.3)
