-- The last block from here on, with the blocks that are left, is that of the whole list.
use mathlib.Core.Path.{◌≡◌, sym, ap, ◌∙◌}
use Prim.Native.Nat.{◌+◌, ◌-◌}
use native.Mathlib.Omega.{arith}
use borrow.Author.Tests.{eqb-true, eqb-false}
use Rattle.std.proofs.lemmas.Bool.{not-true, not-false}
use Rattle.std.specs.Prelude.{Err}
use Rattle.table.specs.State.{overflow_at}
use Rattle.table.specs.Decode.{decode}
use Rattle.table_read.specs.Steps.{last_from, last_as}
use Rattle.table.specs.theory.Ways.{told_last, told_further, told_damage}
use Rattle.table_read.specs.theory.Walks.{last_high, last_out, last_other, last_here, last_bad, last_further}
use Rattle.table_read.specs.theory.Lasts.{last_block, last_none}
use Rattle.table_read.proofs.lists.follow.Goals as goal
use Rattle.table_read.proofs.lists.follow.Goals.{After-step_of, At-loop}

-- damage, where the last block from b on is no block
none_here : (m : At-loop) → let g = m.args.g in
    last_from g ((m.args.i.0)) (g.nob - m.loop.counter) ((let s = m.args in (decode s.g s.t.now).overflow)) m.loop.b.0 ≡ g.nob
    → Err (record {}) ≡ last_as g (last_from g ((m.args.i.0)) g.nob ((let s = m.args in (decode s.g s.t.now).overflow)) m.args.first.0)
none_here m e =
    let g = m.args.g in
    last_none g g.nob (omega arith) ∙ ap (last_as g) (sym e ∙ m.loop.invariant)

pub returns-then-b-g : goal.returns-then-b-g
returns-then-b-g c =
    let g = c.args.g in
    none_here (goal.at.returns-then-b-g c).At-loop (last_high g ((let s = c.args in (decode s.g s.t.now).overflow)) ((c.args.i.0)) (g.nob - c.loop.counter) c.loop.b.0 (omega arith))

pub returns-then-ne : goal.returns-then-ne
returns-then-ne c =
    let g = c.args.g in
    none_here (goal.at.returns-then-ne c).At-loop (last_other g ((let s = c.args in (decode s.g s.t.now).overflow)) ((c.args.i.0)) (g.nob - c.loop.counter) c.loop.b.0 (λ e. eqb-false _ _ (not-true _ (sym c.ne.ensures ∙ c.if-ne.true)) (omega (arith, c.owned_front-fields.ensures.2))))

-- the block is the list's own
own : (w : After-step_of) → (overflow_at ((let s = w.args in (decode s.g s.t.now).overflow)) w.loop.b.0).owner ≡ (w.args.i.0)
own w = omega (arith, w.owned_front-fields.ensures.2, eqb-true _ _ (not-false _ (sym w.ne.ensures ∙ w.if-ne.false)))

pub returns-in-Last : goal.returns-in-Last
returns-in-Last c =
    let g = c.args.g in
    last_block g c.loop.b (omega arith)
    ∙ ap (last_as g)
    (sym (last_here g ((let s = c.args in (decode s.g s.t.now).overflow)) ((c.args.i.0)) (g.nob - c.loop.counter) c.loop.b.0 (omega arith) (omega arith) (own (goal.at.returns-in-Last c).After-step_of) (omega (arith, c.owned_front-fields.ensures.0, told_last _ _ _ _ c.step_of.ensures c.in-Last.is)))
    ∙ c.loop.invariant)

pub returns-in-Damage : goal.returns-in-Damage
returns-in-Damage c =
    let g = c.args.g in
    none_here (goal.at.returns-in-Damage c).At-loop (last_bad g ((let s = c.args in (decode s.g s.t.now).overflow)) ((c.args.i.0)) (g.nob - c.loop.counter) c.loop.b.0 (omega (arith, c.owned_front-fields.ensures.0, told_damage _ _ _ _ c.step_of.ensures c.in-Damage.is)))

pub loop-preserved : goal.loop-preserved
loop-preserved c =
    let g = c.args.g in
    let e = told_further _ _ _ _ c.step_of.ensures _ c.in-Further.is in (
    ap (last_from g ((c.args.i.0)) (g.nob - (c.loop.counter + 1)) ((let s = c.args in (decode s.g s.t.now).overflow))) (e.link ∙ c.owned_front-fields.ensures.1)
    ∙ sym (last_further g ((let s = c.args in (decode s.g s.t.now).overflow)) ((c.args.i.0)) (g.nob - c.loop.counter) (g.nob - (c.loop.counter + 1)) c.loop.b.0 (omega arith) (omega arith) (own (goal.at.loop-preserved c).After-step_of) (omega (arith, c.owned_front-fields.ensures.0, e.full)))
    ∙ c.loop.invariant
    )

pub returns : goal.returns
returns c =
    let g = c.args.g in
    none_here (goal.at.returns c).At-loop (last_out g ((let s = c.args in (decode s.g s.t.now).overflow)) ((c.args.i.0)) (g.nob - c.loop.counter) c.loop.b.0 (omega arith))
