-- The survey decides between refusal 7, refusal 13 and the page.
use Rattle.std.proofs.Common.{◌≡◌, ◌<◌, ◌∙◌, arith}
use lib.Dec.{ltb}
use borrow.Author.Tests.{ltb-true, ltb-false, leb-true, leb-false, lt-ltb}
use Rattle.laws.specs.Cases.{both_true}
use Rattle.text_sheet.proofs.CallLaws.{no_number, no_such, put}
use Rattle.text_sheet.proofs.call.surveyed.Goals as goal

pub returns-in_default : goal.returns-in_default
returns-in_default c =
    let a = c.args in
    no_number a.s a.g a.t.now c.requires.1 a.page a.out.now _ _ _ c.in_ok-count.ensures c.in_default.ensures

-- here and in `returns` `omega` reads the comparison with the count: a wrong one fails at its numbers, not its form
pub returns-then-n-count : goal.returns-then-n-count
returns-then-n-count c =
    let n = c.in-Some.n in
    let a = c.args in
    let b = both_true (ltb 0 n) _ c.if-n-count.true in
    no_such a.s a.g a.t.now c.requires.1 a.page a.out.now _ _ _ c.in_ok-count.ensures
    n c.in-Some.ensures.0.0 c.in-Some.ensures.1 (omega (arith, ltb-true, b.0)) (omega (arith, ltb-true, leb-true, b.1))

pub returns : goal.returns
returns c =
    let n = c.in-Some.n in
    let a = c.args in
    let u : c.unwrap_or.result ≡ n = rw c.in-Some.is at c.unwrap_or.ensures in
    put a.s a.g a.t.now c.requires.1 a.page a.out.now _ _ _ c.in_ok-count.ensures
    c.in-Some.ensures.0.0 (u ∙ c.in-Some.ensures.1) (λ h. let z : 0 < n = omega (arith, u) in omega (arith, u, ltb-false, leb-false, rw (lt-ltb 0 n z) at c.if-n-count.false))
    _ _ c.put_page.ensures
