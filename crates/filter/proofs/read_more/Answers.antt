-- What was there stays, and what is read comes behind it.
use native.Mathlib.Omega.{arith}
use Rattle.std.proofs.lemmas.Result.{err_from_is_err_and}
use Rattle.filter.proofs.Parts.{came_behind, came_none}
use Rattle.filter.proofs.read_more.Goals as goal

pub returns-in_err-n : goal.returns-in_err-n
returns-in_err-n c =
    let a = c.args in
    let p = err_from_is_err_and c.from_residual.result c.from_residual.ensures.1 in
    rw p.1
    (c.in_err-n.ensures.0, came_none a.s a.buf.now c.read_some.new.buf _ c.requires.0 (omega (arith, c.requires.1)) c.in_err-n.ensures.1)

pub returns-in-Some : goal.returns-in-Some
returns-in-Some c =
    let a = c.args in
    let e = rw c.in-Some.is at c.in_ok-n.ensures in
    came_behind a.s c.in-Some.n a.buf.now c.read_some.new.buf _ c.requires.0 (omega (arith, c.requires.1)) (omega (arith, e.0, c.read_some.auto.buf)) e.1

pub returns-in-None : goal.returns-in-None
returns-in-None c =
    let a = c.args in
    came_none a.s a.buf.now c.read_some.new.buf _ c.requires.0 (omega (arith, c.requires.1)) (rw c.in-None.is at c.in_ok-n.ensures)
