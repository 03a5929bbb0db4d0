-- The end from here on, with the block that was passed last, is that of the whole list.
use mathlib.Core.Path.{sym, ◌∙◌}
use Prim.Native.Nat.{◌<◌}
use Rattle.table.specs.Decode.{decode}
use Rattle.table.specs.theory.Ways.{told_further, told_other}
use Rattle.table_read.specs.theory.BlockSlots.{chain_low}
use Rattle.table_delete.proofs.DeleteLaws.{ending_first, ending_here, ending_on}
use Rattle.std.proofs.Common.{inl}
use Rattle.table_delete.proofs.shrink.end_of.Goals as goal
use Rattle.table_delete.proofs.shrink.end_of.Goals.{At-loop}

pub loop-init : goal.loop-init
loop-init c =
    ending_first c.args.g (decode c.args.g c.args.t.now).overflow c.args.first.0 c.requires.1

block_low : (c : At-loop) → c.loop.b.0 < c.args.g.nob
block_low c = let s = c.args in chain_low s.g (decode s.g s.t.now).overflow c.loop.invariant.chain

pub overflow_front-requires : goal.overflow_front-requires
overflow_front-requires c = (c.requires.0, block_low (goal.at.overflow_front-requires c).At-loop)

pub returns-in_default : goal.returns-in_default
returns-in_default c =
    let s = c.args in
    let other = told_other _ _ _ _ c.step_of.ensures {P = Unit {0}} {Q = Unit {0}} (λ e z. c.in_default.not-Further _ e) (λ e z. c.in_default.not-Further _ e) (inl tt) in
    ending_here s.g (decode s.g s.t.now).overflow s.first.0 c.loop.b.0 c.loop.before c.loop.counter c.loop.invariant
    (λ e. other (c.overflow_front.ensures.0 ∙ e))

pub loop-preserved : goal.loop-preserved
loop-preserved c =
    let s = c.args in
    let on = told_further _ _ _ _ c.step_of.ensures _ c.in-Further.is in
    rw (on.link, c.overflow_front.ensures.1)
    (ending_on s.g (decode s.g s.t.now).overflow s.first.0 c.loop.b.0 c.loop.before c.loop.counter c.loop.invariant
    (sym c.overflow_front.ensures.0 ∙ on.full))
