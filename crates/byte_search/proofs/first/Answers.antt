-- A byte of which the test is true is the first; one of which it is false can be passed.
use Rattle.std.proofs.Common.{◌≡◌, length, sym, ◌∙◌, arith}
use Rattle.byte_search.specs.theory.First.{hit, miss, over}
use Rattle.byte_search.proofs.first.Goals as goal

pub returns-then-at-s : goal.returns-then-at-s
returns-then-at-s g c = λ p says. sym (over p _ _ (omega arith))

pub returns-then-test : goal.returns-then-test
returns-then-test g c = λ p says.
    sym (hit p _ _ (omega arith) (sym (says _ _ (omega arith) c.test.ensures) ∙ c.if-test.true)) ∙ c.loop-k.invariant p says

pub loop-k-preserved : goal.loop-k-preserved
loop-k-preserved g c = λ p says.
    sym (miss p _ _ (omega arith) (sym (says _ _ (omega arith) c.test.ensures) ∙ c.if-test.false)) ∙ c.loop-k.invariant p says

pub returns : goal.returns
returns g c = λ p says.
    let e : c.loop-k.k ≡ length c.args.s.now = omega arith in
    sym e ∙ sym (over p c.args.s.now c.loop-k.k (omega arith)) ∙ c.loop-k.invariant p says
