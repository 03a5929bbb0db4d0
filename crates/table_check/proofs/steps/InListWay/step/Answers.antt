-- The block is the list's; its step says which case it is; the unused slots are one run of bits.
use mathlib.Core.Path.{◌≡◌, sym, ap, ap₂, ◌∙◌}
use mathlib.Core.Bool.{true, false}
use Prim.Native.Nat.{ℕ, suc, ◌+◌, ◌-◌, ◌*◌, ◌<◌}
use native.Mathlib.Omega.{arith}
use lib.Dec.{eqb}
use lib.Pow.{pow_mono}
use Rattle.std.proofs.Common.{eqb-true}
use Rattle.std.proofs.lemmas.Bool.{eqb-false, not-true, not-false}
use Rattle.bits.specs.Field.{field}
use Rattle.table.specs.State.{overflow_at}
use Rattle.table.specs.Decode.{overflow_slots, decode}
use Rattle.table.specs.Follow.{step_of, step_at}
use Rattle.table.specs.Check.{overflow_unused}
use Rattle.table.specs.theory.Ways.{told_last}
use Rattle.table.specs.declared.step.Step.TheVariants.{Last}
use Rattle.table.specs.theory.Changes.{bits_high}
use Rattle.table.specs.theory.Formed.{overflow_fits, decode_formed}
use Rattle.table_read.specs.theory.Reads.{overflow_room}
use Rattle.table_check.proofs.Zeros.{over_zeros}
use Rattle.table_check.proofs.StepLaws.{list_alien, list_last, list_other}
use Rattle.table_check.proofs.steps.InListWay.step.Goals as goal
use Rattle.table_check.proofs.steps.InListWay.step.Goals.{After-step_of-way, After-zeros_after, Else-ne, In-Last}

pub returns-then-ne : goal.returns-then-ne
returns-then-ne c = sym (list_alien _ _ _ _ (λ e. eqb-false _ _ (not-true _ (sym c.ne.ensures ∙ c.if-ne.true)) (omega (arith, c.owned_front-fields.ensures.2))))

-- the block is the list's own
own : (c : Else-ne) → (overflow_at (decode c.args.g c.args.t.now).overflow c.args.b.0).owner ≡ c.args.self.0.0
own c = omega (arith, c.owned_front-fields.ensures.2, eqb-true _ _ (not-false _ (sym c.ne.ensures ∙ c.if-ne.false)))

pub overflow_add-used : goal.overflow_add-used
overflow_add-used c =
    let g = c.args.g in
    omega (
      arith,
      c.owned_front-fields.ensures.0,
      (overflow_fits g (decode_formed g c.args.t.now) c.args.b.0 c.requires.1).counter,
      pow_mono c.requires.0.proper.overflow_high,
    )

-- the step is the block's
told : (w : After-step_of-way) → step_at w.args.g (decode w.args.g w.args.t.now).overflow w.args.b.0 ≡ w.step_of-way.result
told w =
    sym (w.step_of-way.ensures ∙ ap₂ (step_of w.args.g.sio) w.owned_front-fields.ensures.0 w.owned_front-fields.ensures.1)

pub returns-in_default : goal.returns-in_default
returns-in_default c =
    sym (list_other _ _ _ _ (own (goal.at.returns-in_default c).Else-ne) c.step_of-way.result (told (goal.at.returns-in_default c).After-step_of-way) c.in_default.not-Last)

-- the counter that was read, and that it is below sio
counter : (c : In-Last) → (c.owned_front-fields.result.front.counter ≡ (overflow_at (decode c.args.g c.args.t.now).overflow c.args.b.0).counter) × (c.owned_front-fields.result.front.counter < c.args.g.sio)
counter c =
    (c.owned_front-fields.ensures.0, told_last _ _ _ _ c.step_of-way.ensures c.in-Last.is)

pub zeros_after-requires : goal.zeros_after-requires
zeros_after-requires c =
    let T = c.requires.0 in
    let e = c.overflow_slots.ensures in
    let r = overflow_room c.args.g c.args.t.now T c.args.b.0 c.requires.1 in
    (omega (arith, counter (goal.at.zeros_after-requires c).In-Last), omega (arith, T.room), omega (arith, bits_high c.args.g T.proper))

unused : (c : After-zeros_after) → overflow_unused c.args.g (decode c.args.g c.args.t.now).overflow c.args.b.0 ≡ c.zeros_after.result
unused c =
    let n = c.owned_front-fields.result.front.counter in
    let g = c.args.g in
    let t = c.args.t.now in
    let o = overflow_at (decode c.args.g c.args.t.now).overflow c.args.b.0 in
    let e : suc o.counter ≡ n + 1 = omega (arith, c.owned_front-fields.ensures.0) in
    over_zeros g t c.requires.0 c.args.b.0 (suc o.counter) c.requires.1
    ∙ ap (λ (m : ℕ). eqb (field t (overflow_slots g c.args.b.0 + m * g.slot) ((g.sio - m) * g.slot)) 0) e
    ∙ ap (λ (a : ℕ). eqb (field t (a + (n + 1) * g.slot) ((g.sio - (n + 1)) * g.slot)) 0) (sym c.overflow_slots.ensures)
    ∙ sym c.zeros_after.ensures

last : (c : After-zeros_after) → step_at c.args.g (decode c.args.g c.args.t.now).overflow c.args.b.0 ≡ Last
last c =
    sym (c.step_of-way.ensures ∙ ap₂ (step_of c.args.g.sio) c.owned_front-fields.ensures.0 c.owned_front-fields.ensures.1)
    ∙ c.in-Last.is

pub returns-then-zeros_after : goal.returns-then-zeros_after
returns-then-zeros_after c =
    sym (list_last _ _ _ _ (own (goal.at.returns-then-zeros_after c).Else-ne) (last (goal.at.returns-then-zeros_after c).After-zeros_after) true (unused (goal.at.returns-then-zeros_after c).After-zeros_after ∙ c.if-zeros_after.true))

pub returns : goal.returns
returns c =
    sym (list_last _ _ _ _ (own (goal.at.returns c).Else-ne) (last (goal.at.returns c).After-zeros_after) false (unused (goal.at.returns c).After-zeros_after ∙ c.if-zeros_after.false))
