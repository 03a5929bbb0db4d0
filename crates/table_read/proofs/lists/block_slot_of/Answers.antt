-- The place from here on, less the slots of the blocks passed, is that of the whole list.
use Rattle.std.proofs.Common.{inl}
use mathlib.Core.Path.{◌∙◌}
use native.Mathlib.Omega.{arith}
use Rattle.table.specs.Decode.{decode}
use Rattle.table_read.specs.theory.Reads.{sized}
use Rattle.table.specs.theory.Ways.{told_further, told_other}
use Rattle.table_read.specs.theory.BlockSlots.{chain_low, going_first, going_on, going_full}
use Rattle.table_read.proofs.lists.block_slot_of.Goals as goal

pub loop-q-init : goal.loop-q-init
loop-q-init c =
    going_first c.args.g (decode c.args.g c.args.t.now).overflow c.args.first.0 c.args.p c.requires.1

pub overflow_front-requires : goal.overflow_front-requires
overflow_front-requires c =
    (c.requires.0, chain_low c.args.g (decode c.args.g c.args.t.now).overflow c.loop-q.invariant.chain)

pub loop-q-preserved : goal.loop-q-preserved
loop-q-preserved c =
    let e = told_further _ _ _ _ c.step_of.ensures _ c.in-Further.is in
    rw (e.link, c.overflow_front.ensures.1)
    (going_on c.args.g (decode c.args.g c.args.t.now).overflow (sized c.args.g c.args.t.now c.requires.0)
    c.args.first.0 c.args.p c.loop-q.b.0 c.loop-q.q c.loop-q.invariant (omega arith))

-- a block before the place is full
pub returns-in_default : goal.returns-in_default
returns-in_default c =
    absurd
    (told_other _ _ _ _ c.step_of.ensures {P = Unit {0}} {Q = Unit {0}} (λ e z. c.in_default.not-Further _ e) (λ e z. c.in_default.not-Further _ e) (inl tt)
    (c.overflow_front.ensures.0
    ∙ going_full c.args.g (decode c.args.g c.args.t.now).overflow (sized c.args.g c.args.t.now c.requires.0)
    c.args.first.0 c.args.p c.loop-q.b.0 c.loop-q.q c.loop-q.invariant (omega arith)))
