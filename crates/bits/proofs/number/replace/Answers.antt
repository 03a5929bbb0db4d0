-- Taking the old bits off and putting the new ones on is replacing them (`exchanged`), and nothing wraps on the way.
use native.Mathlib.Omega.{arith}
use Rattle.bits.specs.theory.Numbers.{Exchanged, exchanged}
use Rattle.bits.proofs.number.replace.Goals as goal
use Rattle.bits.proofs.number.replace.Goals.{After-part}

swap : (c : After-part) →
    let a = c.args in
    Exchanged a.x a.k a.m a.v c.part.result c.pow-q.result
swap c =
    let a = c.args in
    exchanged a.x a.k a.m a.v _ _ (omega arith) (omega arith) (omega arith) c.part.ensures c.pow-q.ensures

pub overflow_mul-result : goal.overflow_mul-result
overflow_mul-result c = omega (arith, swap (goal.at.overflow_mul-result c).After-part)

pub overflow_sub-result : goal.overflow_sub-result
overflow_sub-result c = (swap (goal.at.overflow_sub-result c).After-part).off

pub overflow_mul-result-2 : goal.overflow_mul-result-2
overflow_mul-result-2 c = record { fits = (swap (goal.at.overflow_mul-result-2 c).After-part).on }

pub overflow_add-result : goal.overflow_add-result
overflow_add-result c = record { fits = (swap (goal.at.overflow_add-result c).After-part).sum }

pub returns : goal.returns
returns c = (swap (goal.at.returns c).After-part).is
