-- n entries were passed, and with those from here on, in the blocks that are left, they are those of all blocks.
use Rattle.std.proofs.Common.{eqb-true}
use Rattle.std.proofs.lemmas.Bool.{eqb-false, not-true, not-false}
use mathlib.Core.Path.{◌≡◌, sym, ◌∙◌}
use Prim.Native.Nat.{◌+◌, ◌-◌, ◌≤◌}
use native.Mathlib.Omega.{arith}
use Rattle.table.specs.State.{overflow_at}
use Rattle.table.specs.Decode.{decode}
use Rattle.table.specs.theory.Ways.{told_last, told_further, told_damage}
use Rattle.table_cursor.proofs.LengthLaws.{length_high, length_other, length_bad, length_here, length_on}
use Rattle.table_cursor.proofs.count.blocks_length.Goals as goal
use Rattle.table_cursor.proofs.count.blocks_length.Goals.{After-step_of, In-Last}

pub returns-then-b-g : goal.returns-then-b-g
returns-then-b-g c =
    length_high c.args.g c.args.t.now c.requires c.args.i.0 (c.args.g.nob - c.loop-k._k) c.loop-k.b.0 c.loop-k.n (omega arith) ∙ c.loop-k.invariant.1

pub returns-then-ne : goal.returns-then-ne
returns-then-ne c =
    length_other c.args.g c.args.t.now c.requires c.args.i.0 (c.args.g.nob - c.loop-k._k) c.loop-k.b.0 c.loop-k.n
    (λ e. eqb-false _ _ (not-true _ (sym c.ne.ensures ∙ c.if-ne.true)) (omega (arith, c.owned_front-fields.ensures.2)))
    ∙ c.loop-k.invariant.1

-- the block is the list's own
own : (w : After-step_of) → (overflow_at (decode w.args.g w.args.t.now).overflow w.loop-k.b.0).owner ≡ w.args.i.0
own w = omega (arith, w.owned_front-fields.ensures.2, eqb-true _ _ (not-false _ (sym w.ne.ensures ∙ w.if-ne.false)))

pub returns-in-Last : goal.returns-in-Last
returns-in-Last c =
    length_here c.args.g c.args.t.now c.requires c.args.i.0 (c.args.g.nob - c.loop-k._k) c.loop-k.b.0 c.loop-k.n c.owned_front-fields.result.front.counter _
    (omega arith) (omega arith) (own (goal.at.returns-in-Last c).After-step_of) c.owned_front-fields.ensures.0 (told_last _ _ _ _ c.step_of.ensures c.in-Last.is) (omega arith)
    ∙ c.loop-k.invariant.1

-- the entries up to the last block's are few
few : (c : In-Last) → c.loop-k.n + c.owned_front-fields.result.front.counter ≤ 983040
few c =
    omega (arith, c.loop-k.invariant.0, c.requires.proper.nob_high, c.requires.proper.sio_high, told_last _ _ _ _ c.step_of.ensures c.in-Last.is)

pub overflow_add-result-in-Last : goal.overflow_add-result-in-Last
overflow_add-result-in-Last c = omega (arith, few (goal.at.overflow_add-result-in-Last c).In-Last)

pub overflow_add-result : goal.overflow_add-result
overflow_add-result c = omega (arith, few (goal.at.overflow_add-result c).In-Last)

pub returns-in-Damage : goal.returns-in-Damage
returns-in-Damage c =
    length_bad c.args.g c.args.t.now c.requires c.args.i.0 (c.args.g.nob - c.loop-k._k) c.loop-k.b.0 c.loop-k.n
    (omega (arith, c.owned_front-fields.ensures.0, told_damage _ _ _ _ c.step_of.ensures c.in-Damage.is))
    ∙ c.loop-k.invariant.1

pub loop-k-preserved : goal.loop-k-preserved
loop-k-preserved c =
    let g = c.args.g in
    let e = told_further _ _ _ _ c.step_of.ensures _ c.in-Further.is in (
      omega (arith, c.loop-k.invariant.0, c.requires.proper.sio_high),
      length_on g c.args.t.now c.requires c.args.i.0 (g.nob - c.loop-k._k) _ c.loop-k.b.0 c.loop-k.n _ (omega arith) (omega arith)
          (own (goal.at.loop-k-preserved c).After-step_of) (omega (arith, c.owned_front-fields.ensures.0, e.full)) (e.link ∙ c.owned_front-fields.ensures.1)
          ∙ c.loop-k.invariant.1,
    )
