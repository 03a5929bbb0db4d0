-- Each turn tests one block's slots against each other and against the blocks after it.
use mathlib.Core.Path.{◌≡◌, sym, ap, ap₂, ◌∙◌}
use mathlib.Core.Bool.{Bool, true, false, ◌&&◌}
use Prim.Native.Nat.{◌-◌}
use native.Mathlib.Omega.{arith}
use Rattle.table.specs.Follow.{step_of}
use Rattle.table.specs.Decode.{decode}
use Rattle.table.specs.Check.{no_entry_twice}
use Rattle.table_check.specs.Entries.{slots_from, slots_after}
use Rattle.table_check.proofs.Doubles.{slots_out, slots_high, after_further, after_none}
use Rattle.table_check.proofs.Runs.{run_within, apart_on}
use Rattle.table_check.proofs.entries.blocks_apart.Goals as goal
use Rattle.table_check.proofs.entries.blocks_apart.Goals.{After-slots_apart}

turned_once : (k : After-slots_apart) → (k.slots_apart.result && no_entry_twice k.args.g (slots_after k.args.g (k.loop-left.left - 1) (decode k.args.g k.args.t.now).overflow k.step_of-way.result))
    ≡ no_entry_twice k.args.g (slots_from k.args.g k.args.g.nob (decode k.args.g k.args.t.now).overflow k.args.first.0)
turned_once k =
    ap (λ (q : Bool). q && no_entry_twice k.args.g (slots_after k.args.g (k.loop-left.left - 1) (decode k.args.g k.args.t.now).overflow k.step_of-way.result)) k.slots_apart.ensures
    ∙ apart_on k.args.g k.args.t.now k.requires k.loop-left.left (k.loop-left.left - 1) k.loop-left.b.0 k.overflow_front-front.result.counter k.run_of.result k.step_of-way.result
    (omega (arith, k.loop-left-test.true)) (omega (arith, k.if-b-g.false)) k.overflow_front-front.ensures.0 k.run_of.ensures
    (k.step_of-way.ensures ∙ ap₂ (step_of k.args.g.sio) k.overflow_front-front.ensures.0 k.overflow_front-front.ensures.1)
    ∙ k.loop-left.invariant

turned : (k : After-slots_apart) (q : Bool) → k.slots_apart.result ≡ q → (q && no_entry_twice k.args.g (slots_after k.args.g (k.loop-left.left - 1) (decode k.args.g k.args.t.now).overflow k.step_of-way.result))
    ≡ no_entry_twice k.args.g (slots_from k.args.g k.args.g.nob (decode k.args.g k.args.t.now).overflow k.args.first.0)
turned k q e = ap (λ (q : Bool). q && no_entry_twice k.args.g (slots_after k.args.g (k.loop-left.left - 1) (decode k.args.g k.args.t.now).overflow k.step_of-way.result)) (sym e) ∙ turned_once k

pub returns-then-b-g : goal.returns-then-b-g
returns-then-b-g c =
    ap (no_entry_twice c.args.g)
    (sym (slots_high c.args.g (decode c.args.g c.args.t.now).overflow c.loop-left.left c.loop-left.b.0 (omega arith)))
    ∙ c.loop-left.invariant

pub slots_apart-requires : goal.slots_apart-requires
slots_apart-requires c =
    (c.requires, rw c.run_of.ensures (run_within c.args.g c.args.t.now c.requires c.loop-left.b.0 _ (omega (arith, c.if-b-g.false))))

pub returns-then-not-slots_apart : goal.returns-then-not-slots_apart
returns-then-not-slots_apart c = turned (goal.at.returns-then-not-slots_apart c).After-slots_apart false c.if-not-slots_apart.true

pub returns-in_default : goal.returns-in_default
returns-in_default c =
    ap (no_entry_twice c.args.g)
    (sym
    (after_none c.args.g (decode c.args.g c.args.t.now).overflow (c.loop-left.left - 1) _
    c.in_default.not-Further))
    ∙ turned (goal.at.returns-in_default c).After-slots_apart true c.if-not-slots_apart.false

pub loop-left-preserved : goal.loop-left-preserved
loop-left-preserved c =
    ap (no_entry_twice c.args.g)
    (sym (after_further c.args.g (decode c.args.g c.args.t.now).overflow (c.loop-left.left - 1) _ _ c.in-Further.is))
    ∙ turned (goal.at.loop-left-preserved c).After-slots_apart true c.if-not-slots_apart.false

pub returns : goal.returns
returns c =
    ap (no_entry_twice c.args.g)
    (sym (slots_out c.args.g (decode c.args.g c.args.t.now).overflow c.loop-left.left c.loop-left.b.0 (omega arith)))
    ∙ c.loop-left.invariant
