-- Each turn looks in one block; what is left is looked for in the blocks after it.
use mathlib.Core.Path.{◌≡◌, refl, sym, ap, ap₂, ◌∙◌}
use mathlib.Core.List.{List}
use Rattle.settings.specs.declared.layout.Layout.{Layout}
use Rattle.settings.specs.Proper.{Proper}
use Prim.Native.Nat.{ℕ, suc, ◌+◌, ◌-◌, ◌<◌}
use native.Mathlib.Omega.{arith}
use Rattle.keys.specs.Key.{key_number}
use Rattle.table.specs.Decode.{decode}
use Rattle.table.specs.Follow.{step_of}
use Rattle.table.specs.Find.{position}
use Rattle.table.specs.Check.{has_entry}
use Rattle.table_read.specs.Steps.{First, slots_in, overflow_run}
use Rattle.table_read.specs.theory.Scans.{overflow_row, plain_position}
use Rattle.table_read.specs.declared.slots.Slots.{Slots}
use Rattle.table_check.specs.Entries.{run_of, slots_from, slots_after}
use Rattle.table_check.proofs.Doubles.{slots_out, slots_high, after_further, after_none}
use Rattle.table_check.proofs.Runs.{held_here, held_on}
use Rattle.table_check.proofs.entries.held_from.Goals as goal
use Rattle.table_check.proofs.entries.held_from.Goals.{After-scan-j, After-step_of, Else-b-g}

-- there is a block to look in
here : (c : Else-b-g) → ((c.args.most - c.loop.counter) ≡ suc (c.args.most - (c.loop.counter + 1))) × (c.loop.b.0 < c.args.g.nob)
here c = (omega arith, omega arith)

-- the entry's place in its slots
place_at : (g : Layout) (t : List ℕ) → Proper g → (b c : ℕ) (r : Slots) → r ≡ run_of g b c → (n j : ℕ)
    → First t r.start g.slot g.bie n r.count j → j ≡ position g n (slots_in g t r)
unfolding overflow_run run_of
place_at g t P b c r e n j f = plain_position g P t r (ap (λ (r : Slots). r.displaced) e) n j f

place : (d : After-scan-j) → d.scan-j.result.0 ≡ position d.args.g (key_number d.args.entry) (slots_in d.args.g d.args.t.now d.run_of-run.result)
place d = place_at d.args.g d.args.t.now d.requires.0.proper d.loop.b.0 _ d.run_of-run.result d.run_of-run.ensures _ _ d.scan-j.ensures

pub returns-then-b-g : goal.returns-then-b-g
returns-then-b-g c =
    ap (has_entry c.args.g (key_number c.args.entry))
    (sym (slots_high c.args.g (decode c.args.g c.args.t.now).overflow (c.args.most - c.loop.counter) c.loop.b.0 (omega arith)))
    ∙ c.loop.invariant

pub scan-j-requires : goal.scan-j-requires
unfolding overflow_run run_of
scan-j-requires c = (
  rw c.run_of-run.ensures (overflow_row c.args.g c.args.t.now c.requires.0 c.loop.b.0 (here (goal.at.scan-j-requires c).Else-b-g).1),
  rw c.run_of-run.ensures (omega arith),
  c.requires.1,
)

pub returns-then-j-run : goal.returns-then-j-run
returns-then-j-run c =
    let h = here (goal.at.returns-then-j-run c).Else-b-g in
    sym
    (held_here c.args.g c.args.t.now c.requires.0 (c.args.most - c.loop.counter) (c.args.most - (c.loop.counter + 1)) c.loop.b.0 c.overflow_front-front.result.counter
    c.run_of-run.result _ h.0 h.1 c.overflow_front-front.ensures.0 c.run_of-run.ensures refl (key_number c.args.entry) (omega (arith, c.if-j-run.true, place (goal.at.returns-then-j-run c).After-scan-j)))
    ∙ c.loop.invariant

-- the entry is looked for behind the block
behind : (w : After-step_of) → has_entry w.args.g (key_number w.args.entry) (slots_from w.args.g (w.args.most - w.loop.counter) (decode w.args.g w.args.t.now).overflow w.loop.b.0)
    ≡ has_entry w.args.g (key_number w.args.entry) (slots_after w.args.g (w.args.most - (w.loop.counter + 1)) (decode w.args.g w.args.t.now).overflow w.step_of.result)
behind w =
    held_on w.args.g w.args.t.now w.requires.0 (w.args.most - w.loop.counter) (w.args.most - (w.loop.counter + 1)) w.loop.b.0 w.overflow_front-front.result.counter
    w.run_of-run.result w.step_of.result (omega arith) (omega arith) w.overflow_front-front.ensures.0 w.run_of-run.ensures
    (w.step_of.ensures ∙ ap₂ (step_of w.args.g.sio) w.overflow_front-front.ensures.0 w.overflow_front-front.ensures.1)
    (key_number w.args.entry) (omega (arith, w.if-j-run.false, place_at w.args.g w.args.t.now w.requires.0.proper w.loop.b.0 _ w.run_of-run.result w.run_of-run.ensures _ _ w.scan-j.ensures))

pub returns-in_default : goal.returns-in_default
returns-in_default c =
    ap (has_entry c.args.g (key_number c.args.entry))
    (sym
    (after_none c.args.g (decode c.args.g c.args.t.now).overflow (c.args.most - (c.loop.counter + 1)) c.step_of.result
    c.in_default.not-Further))
    ∙ sym (behind (goal.at.returns-in_default c).After-step_of)
    ∙ c.loop.invariant

pub loop-preserved : goal.loop-preserved
loop-preserved c =
    ap (has_entry c.args.g (key_number c.args.entry))
    (sym (after_further c.args.g (decode c.args.g c.args.t.now).overflow (c.args.most - (c.loop.counter + 1)) c.step_of.result _ c.in-Further.is))
    ∙ sym (behind (goal.at.loop-preserved c).After-step_of)
    ∙ c.loop.invariant

pub returns : goal.returns
returns c =
    ap (has_entry c.args.g (key_number c.args.entry))
    (sym (slots_out c.args.g (decode c.args.g c.args.t.now).overflow (c.args.most - c.loop.counter) c.loop.b.0 (omega arith)))
    ∙ c.loop.invariant
