-- The test is the definition's.
use Prim.Native.Nat.{suc}
use native.Mathlib.Omega.{arith}
use native.Mathlib.Numerals.{add-one}
use borrow.Author.Tests.{eq-eqb, ne_eqb}
use Rattle.table_make.proofs.free_link.Goals as goal

pub returns-then-next-g : goal.returns-then-next-g
returns-then-next-g c =
    let a = c.args in
    rw (eq-eqb (suc a.j.0) a.g.nob (omega arith))

pub returns : goal.returns
returns c =
    let a = c.args in
    rw (ne_eqb (suc a.j.0) a.g.nob (λ e. c.if-next-g.false (omega arith))) (add-one a.j.0)
