-- The invariant: the list goes on at block b, and the answer is the same from there. The measure is the turns left.
use Rattle.std.proofs.Common.{inl}
use mathlib.Core.Path.{◌≡◌, sym, ◌∙◌}
use Prim.Native.Nat.{◌+◌, ◌-◌}
use native.Mathlib.Omega.{arith}
use borrow.Author.Tests.{eqb-true, eqb-false}
use Rattle.table.specs.Decode.{decode}
use Rattle.table.specs.theory.Ways.{told_further, told_other}
use Rattle.table_read.specs.theory.Walks.{OneStep, one_step}
use Rattle.table_read.specs.theory.BlockSlots.{has_here, has_last, has_on}
use Rattle.table_read.proofs.lists.list_has_block.Goals as goal
use Rattle.table_read.proofs.lists.list_has_block.Goals.{At-loop}

-- the block that the loop has come to
here : (c : At-loop) → OneStep c.args.g (decode c.args.g c.args.t.now).overflow (c.args.g.nob - c.loop.counter) c.loop.b.0
here c =
    one_step c.args.g (decode c.args.g c.args.t.now).overflow (c.args.g.nob - c.loop.counter) c.loop.b.0 c.loop.invariant.0

pub returns-then-eq : goal.returns-then-eq
returns-then-eq c =
    has_here c.args.g (decode c.args.g c.args.t.now).overflow c.args.f.0 (c.args.g.nob - c.loop.counter) c.loop.b.0 (here (goal.at.returns-then-eq c).At-loop) (eqb-true _ _ (sym c.eq.ensures ∙ c.if-eq.true))
    ∙ c.loop.invariant.1

pub overflow_front-requires : goal.overflow_front-requires
overflow_front-requires c =
    (c.requires.0, (here (goal.at.overflow_front-requires c).At-loop).low)

pub returns-in_default : goal.returns-in_default
returns-in_default c =
    let other = told_other _ _ _ _ c.step_of.ensures {P = Unit {0}} {Q = Unit {0}} (λ e z. c.in_default.not-Further _ e) (λ e z. c.in_default.not-Further _ e) (inl tt) in
    has_last c.args.g (decode c.args.g c.args.t.now).overflow c.args.f.0 (c.args.g.nob - c.loop.counter) c.loop.b.0 (here (goal.at.returns-in_default c).At-loop) (eqb-false _ _ (sym c.eq.ensures ∙ c.if-eq.false))
    (omega (arith, (here (goal.at.returns-in_default c).At-loop).count, c.overflow_front.ensures.0, other))
    ∙ c.loop.invariant.1

pub loop-preserved : goal.loop-preserved
loop-preserved c =
    let k = here (goal.at.loop-preserved c).At-loop in
    let on = told_further _ _ _ _ c.step_of.ensures _ c.in-Further.is in
    let full = sym c.overflow_front.ensures.0 ∙ on.full in
    let m : c.args.g.nob - c.loop.counter - 1 ≡ c.args.g.nob - (c.loop.counter + 1) = omega arith in
    let next = on.link ∙ c.overflow_front.ensures.1 in (
      rw (next, ← m) (k.on full),
      rw (next, ← m)
          (has_on c.args.g (decode c.args.g c.args.t.now).overflow c.args.f.0 (c.args.g.nob - c.loop.counter) c.loop.b.0 k (eqb-false _ _ (sym c.eq.ensures ∙ c.if-eq.false)) full
          ∙ c.loop.invariant.1),
    )
