-- Slot m of the blocks from b on is slot n of all of them; a block's slots are passed by taking their count off m.
use Rattle.std.proofs.Common.{inl}
use mathlib.Core.Path.{◌≡◌, sym, ◌∙◌}
use Prim.Native.Nat.{◌-◌, ◌+◌, ◌<◌}
use native.Mathlib.Omega.{arith}
use Rattle.table.specs.Decode.{decode}
use Rattle.table_read.specs.theory.Reads.{overflow_run_within}
use Rattle.table.specs.theory.Ways.{told_further, told_other}
use Rattle.table_read.specs.theory.Walks.{OneStep, one_step}
use Rattle.table_record.proofs.Records.{nth_in_block, nth_past_last, nth_past_block}
use Rattle.table_record.proofs.nth_blocks.Goals as goal
use Rattle.table_record.proofs.nth_blocks.Goals.{At-loop-q}

here : (k : At-loop-q) → let a = k.args in
    OneStep a.g (decode a.g a.t.now).overflow (a.g.nob - k.loop-q._q) k.loop-q.b.0
here k = one_step _ _ _ _ k.loop-q.invariant.0

pub overflow_front-front-requires : goal.overflow_front-front-requires
overflow_front-front-requires c = (c.requires.0, (here (goal.at.overflow_front-front-requires c).At-loop-q).low)

pub overflow_run-run-requires : goal.overflow_run-run-requires
overflow_run-run-requires c =
    (c.requires.0.proper, (here (goal.at.overflow_run-run-requires c).At-loop-q).low, omega (arith, (here (goal.at.overflow_run-run-requires c).At-loop-q).count, c.overflow_front-front.ensures.0))

pub nth_of-requires : goal.nth_of-requires
nth_of-requires c = (
  c.requires.0.proper,
  rw c.overflow_run-run.ensures (overflow_run_within c.args.g c.args.t.now c.requires.0 c.loop-q.b.0 c.overflow_front-front.result.counter (here (goal.at.nth_of-requires c).At-loop-q).low),
)

pub returns-then-m-count : goal.returns-then-m-count
returns-then-m-count c = (
  c.nth_of.ensures.0
      ∙ nth_in_block c.args.g c.args.t.now c.requires.0 (c.args.g.nob - c.loop-q._q) c.loop-q.b.0 c.overflow_front-front.result.counter c.overflow_run-run.result
      c.loop-q.invariant.0 c.overflow_front-front.ensures.0 c.overflow_run-run.ensures c.loop-q.m c.if-m-count.true
      ∙ c.loop-q.invariant.1,
  c.nth_of.ensures.1,
)

pub returns-in_default : goal.returns-in_default
returns-in_default c =
    let other = told_other _ _ _ _ c.step_of.ensures {P = Unit {0}} {Q = Unit {0}} (λ e z. c.in_default.not-Further _ e) (λ e z. c.in_default.not-Further _ e) (inl tt) in
    let last : c.overflow_front-front.result.counter < c.args.g.sio = omega (arith, c.overflow_front-front.ensures.0, (here (goal.at.returns-in_default c).At-loop-q).count, other) in (
      nth_past_last c.args.g c.args.t.now c.requires.0 (c.args.g.nob - c.loop-q._q) c.loop-q.b.0 c.overflow_front-front.result.counter c.overflow_run-run.result
          c.loop-q.invariant.0 c.overflow_front-front.ensures.0 c.overflow_run-run.ensures c.loop-q.m c.if-m-count.false last
          ∙ c.loop-q.invariant.1,
      tt,
    )

pub loop-q-preserved : goal.loop-q-preserved
loop-q-preserved c =
    let g = c.args.g in
    let t = c.args.t.now in
    let q = c.loop-q._q in
    let f = (here (goal.at.loop-q-preserved c).At-loop-q).fuel in
    let n = c.overflow_front-front.ensures.0 in
    let on = told_further _ _ _ _ c.step_of.ensures _ c.in-Further.is in
    let l = on.link ∙ c.overflow_front-front.ensures.1 in
    let z : g.nob - (q + 1) ≡ g.nob - q - 1 = omega arith in (
      rw (z, l) ((here (goal.at.loop-q-preserved c).At-loop-q).on (sym n ∙ on.full)),
      rw (z, l)
          (nth_past_block g t c.requires.0 (g.nob - q) c.loop-q.b.0 c.overflow_front-front.result.counter c.overflow_run-run.result
          c.loop-q.invariant.0 n c.overflow_run-run.ensures c.loop-q.m c.if-m-count.false (omega (arith, on.full))
          ∙ c.loop-q.invariant.1),
    )
