-- One law says that the high half has room, and that the halves are the answer.
use native.Mathlib.Omega.{arith}
use mathlib.Core.Path.{◌∙◌, sym}
use Rattle.text_read.proofs.Joined.{Raised, raised}
use Rattle.text_read.proofs.groups.Groups.raised.Goals as goal
use Rattle.text_read.proofs.groups.Groups.raised.Goals.{After-power-up}

halves : (c : After-power-up) → Raised c.args.self c.self.inside c.self.view_is c.self.invariant c.args.tail c.tail.inside c.tail.view_is c.tail.invariant c.power-up.result
halves c = raised _ _ c.self.view_is c.self.invariant _ _ c.tail.view_is c.tail.invariant c.power-up.result c.requires.0 c.requires.1 c.power-up.ensures

pub overflow_mul-self-inside : goal.overflow_mul-self-inside
overflow_mul-self-inside c = omega (arith, (halves (goal.at.overflow_mul-self-inside c).After-power-up).fits)

pub overflow_add-self-inside : goal.overflow_add-self-inside
overflow_add-self-inside c = omega (arith, (halves (goal.at.overflow_add-self-inside c).After-power-up).fits)

pub returns : goal.returns
returns c = c.found.ensures ∙ sym (halves (goal.at.returns c).After-power-up).answer
