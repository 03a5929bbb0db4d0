-- One law says that both halves have room, and that they are the groups.
use native.Mathlib.Omega.{arith}
use Rattle.text_read.proofs.Joined.{Moved, moved_up}
use Rattle.text_read.proofs.groups.Groups.pushed.Goals as goal
use Rattle.text_read.proofs.groups.Groups.pushed.Goals.{After-power-over}

halves : (c : After-power-over) → Moved c.args.self c.self.inside c.args.n c.args.x c.power-up.result c.power-over.result
halves c =
    moved_up c.args.self c.self.inside c.args.n c.args.x c.power-up.result c.power-over.result c.self.view_is c.self.invariant (omega arith) c.requires.2 c.requires.3 c.power-up.ensures c.power-over.ensures

pub overflow_mul-result : goal.overflow_mul-result
overflow_mul-result c = omega (arith, (halves (goal.at.overflow_mul-result c).After-power-over).high)

pub nonzero_div-result : goal.nonzero_div-result
nonzero_div-result c = omega (arith, (halves (goal.at.nonzero_div-result c).After-power-over).some)

pub overflow_add-result : goal.overflow_add-result
overflow_add-result c = omega (arith, (halves (goal.at.overflow_add-result c).After-power-over).high)

pub nonzero_rem-result : goal.nonzero_rem-result
nonzero_rem-result c = omega (arith, (halves (goal.at.nonzero_rem-result c).After-power-over).some)

pub overflow_mul-result-2 : goal.overflow_mul-result-2
overflow_mul-result-2 c = omega (arith, (halves (goal.at.overflow_mul-result-2 c).After-power-over).low)

pub overflow_add-result-2 : goal.overflow_add-result-2
overflow_add-result-2 c = omega (arith, (halves (goal.at.overflow_add-result-2 c).After-power-over).low)

pub invariant_of-result : goal.invariant_of-result
invariant_of-result c = (halves (goal.at.invariant_of-result c).After-power-over).sized

pub returns : goal.returns
returns c = (halves (goal.at.returns c).After-power-over).groups
