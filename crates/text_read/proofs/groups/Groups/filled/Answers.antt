-- The test refuses what leaves no place for a zero group.
use native.Mathlib.Omega.{arith}
use mathlib.Core.Path.{◌∙◌, sym}
use Rattle.text_read.proofs.Joined.{filled_over, pushed}
use Rattle.text_read.proofs.groups.Groups.filled.Goals as goal

pub returns-then-self-tail-gt7 : goal.returns-then-self-tail-gt7
returns-then-self-tail-gt7 c =
    c.refused.ensures ∙ sym (filled_over _ _ c.self.view_is c.self.invariant _ _ c.tail.view_is c.tail.invariant c.if-self-tail-gt7.true)

pub pushed-requires : goal.pushed-requires
pushed-requires c =
    let p = pushed _ _ c.self.view_is c.self.invariant _ _ c.tail.view_is c.tail.invariant c.if-self-gt4.true c.if-self-tail-gt7.false in
    (omega arith, omega arith, p.room, p.fits)

pub returns-then-self-gt4 : goal.returns-then-self-gt4
returns-then-self-gt4 c =
    let p = pushed _ _ c.self.view_is c.self.invariant _ _ c.tail.view_is c.tail.invariant c.if-self-gt4.true c.if-self-tail-gt7.false in
    c.eight.ensures ∙ (rw c.pushed.ensures p.answer)
