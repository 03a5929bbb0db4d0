-- A byte of which the test is false can be passed.
use Rattle.std.proofs.Common.{◌≡◌, ◌+◌, sym, ap, ◌∙◌, arith}
use Rattle.std.proofs.lemmas.Bool.{not-true}
use Rattle.laws.specs.Cases.{both_true}
use Rattle.byte_search.specs.First.{first_from}
use Rattle.byte_search.specs.theory.First.{miss}
use Rattle.byte_search.proofs.none_of.Goals as goal

pub loop-k-preserved : goal.loop-k-preserved
loop-k-preserved g c = λ e p says.
    let a = c.args in
    let b = both_true c.loop-k.none _ e in
    let next : a.i + c.loop-k.k + 1 ≡ a.i + (c.loop-k.k + 1) = omega arith in
    c.loop-k.invariant b.0 p says
    ∙ miss p a.s.now (a.i + c.loop-k.k) (omega arith) (sym (says _ _ (omega arith) c.test.ensures) ∙ not-true _ b.1)
    ∙ ap (first_from p a.s.now) next
