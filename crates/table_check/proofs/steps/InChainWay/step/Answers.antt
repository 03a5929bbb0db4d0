-- The tests one by one; the slots are one run of bits.
use mathlib.Core.Path.{◌≡◌, sym, ap, ◌∙◌}
use mathlib.Core.Bool.{Bool, cond}
use mathlib.Core.List.{List}
use Rattle.settings.specs.declared.layout.Layout.{Layout}
use Prim.Native.Nat.{ℕ, ◌+◌, ◌-◌, ◌*◌, ◌<◌}
use native.Mathlib.Omega.{arith}
use lib.Dec.{eqb}
use borrow.Author.Tests.{eq-eqb, ne_eqb}
use Rattle.laws.specs.Folds.{all_zero}
use Rattle.bits.specs.Field.{field}
use Rattle.table.specs.State.{overflow_at}
use Rattle.table.specs.Decode.{decode, overflow_slots}
use Rattle.table.specs.Table.{Table}
use Rattle.table.specs.theory.Changes.{bits_high}
use Rattle.table_read.specs.theory.Reads.{overflow_room}
use Rattle.table_check.specs.Walk.{chain_step}
use Rattle.table_check.proofs.Zeros.{over_zeros}
use Rattle.table.specs.declared.step.Step.TheVariants.{Last}
use Rattle.table.specs.Follow.{further}
use Rattle.table_check.proofs.StepLaws.{chain_used, chain_owned, chain_full, chain_free}
use Rattle.table_check.proofs.steps.InChainWay.step.Goals as goal
use Rattle.table_check.proofs.steps.InChainWay.step.Goals.{Else-fields-ne0, Else-fields-ne0-2, Else-not-zeros_after}

pub returns-then-fields-ne0 : goal.returns-then-fields-ne0
returns-then-fields-ne0 c = sym (chain_used _ _ _ (λ e. omega (arith, c.owned_front-fields.ensures.0, c.if-fields-ne0.true)))

counter : (c : Else-fields-ne0) → (overflow_at (decode c.args.g c.args.t.now).overflow c.args.b.0).counter ≡ 0
counter c = omega (arith, c.owned_front-fields.ensures.0, c.if-fields-ne0.false)

pub returns-then-fields-ne0-2 : goal.returns-then-fields-ne0-2
returns-then-fields-ne0-2 c =
    sym (chain_owned _ _ _ (counter (goal.at.returns-then-fields-ne0-2 c).Else-fields-ne0) (λ e. omega (arith, c.owned_front-fields.ensures.2, c.if-fields-ne0-2.true)))

owner : (c : Else-fields-ne0-2) → (overflow_at (decode c.args.g c.args.t.now).overflow c.args.b.0).owner ≡ 0
owner c = omega (arith, c.owned_front-fields.ensures.2, c.if-fields-ne0-2.false)

pub zeros_after-requires : goal.zeros_after-requires
zeros_after-requires c =
    let T = c.requires.0 in
    let e = c.overflow_slots.ensures in
    let r = overflow_room c.args.g c.args.t.now T c.args.b.0 c.requires.1 in
    (omega arith, omega (arith, T.room), omega (arith, bits_high c.args.g T.proper))

-- the block's slots, which begin at bit a
slots_at : (g : Layout) (t : List ℕ) → Table g t → (b : ℕ) → b < g.nob → (a : ℕ) → a ≡ overflow_slots g b → (r : Bool)
    → r ≡ eqb (field t (a + 0 * g.slot) ((g.sio - 0) * g.slot)) 0 → all_zero (overflow_at (decode g t).overflow b).slots ≡ r
slots_at g t T b h a e r z =
    over_zeros g t T b 0 h ∙ ap (λ (x : ℕ). eqb (field t (x + 0 * g.slot) ((g.sio - 0) * g.slot)) 0) (sym e) ∙ sym z

pub returns-then-not-zeros_after : goal.returns-then-not-zeros_after
returns-then-not-zeros_after c =
    sym (chain_full _ _ _ (counter (goal.at.returns-then-not-zeros_after c).Else-fields-ne0) (owner (goal.at.returns-then-not-zeros_after c).Else-fields-ne0-2) (slots_at c.args.g c.args.t.now c.requires.0 c.args.b.0 c.requires.1 c.overflow_slots.result c.overflow_slots.ensures _ c.zeros_after.ensures ∙ c.if-not-zeros_after.true))

-- a free block, by its link
free : (c : Else-not-zeros_after) → let s = c.args in
    cond (eqb (overflow_at (decode c.args.g c.args.t.now).overflow c.args.b.0).link s.b.0) Last (further (overflow_at (decode c.args.g c.args.t.now).overflow c.args.b.0).link) ≡ chain_step s.g (decode s.g s.t.now).overflow s.b.0
free c =
    sym (chain_free _ _ _ (omega (arith, c.owned_front-fields.ensures.0, c.if-fields-ne0.false)) (omega (arith, c.owned_front-fields.ensures.2, c.if-fields-ne0-2.false))
    (slots_at c.args.g c.args.t.now c.requires.0 c.args.b.0 c.requires.1 c.overflow_slots.result c.overflow_slots.ensures _ c.zeros_after.ensures ∙ c.if-not-zeros_after.false))

pub returns-then-next-b : goal.returns-then-next-b
returns-then-next-b c =
    let l = (overflow_at (decode c.args.g c.args.t.now).overflow c.args.b.0).link in
    let b = c.args.b.0 in
    ap (λ (r : Bool). cond r Last (further l)) (sym (eq-eqb l b (omega (arith, c.owned_front-fields.ensures.1, c.if-next-b.true)))) ∙ free (goal.at.returns-then-next-b c).Else-not-zeros_after

pub returns : goal.returns
returns c =
    let l = (overflow_at (decode c.args.g c.args.t.now).overflow c.args.b.0).link in
    let b = c.args.b.0 in
    ap further c.owned_front-fields.ensures.1
    ∙ ap (λ (r : Bool). cond r Last (further l)) (sym (ne_eqb l b (λ e. omega (arith, c.owned_front-fields.ensures.1, c.if-next-b.false))))
    ∙ free (goal.at.returns c).Else-not-zeros_after
