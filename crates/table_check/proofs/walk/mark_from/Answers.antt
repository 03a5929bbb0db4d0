-- Each turn of the loop is a turn of the walk.
use mathlib.Core.Path.{sym, ◌∙◌}
use Prim.Native.Nat.{◌+◌, ◌-◌}
use native.Mathlib.Omega.{arith}
use Rattle.table.specs.declared.step.Step.TheVariants.{Last, Further, Damage}
use Rattle.table_check.proofs.Marks.{walk_out, walk_high, walk_met, walk_on}
use Rattle.table_check.proofs.walk.mark_from.Goals as goal

pub returns-then-b-g : goal.returns-then-b-g
returns-then-b-g g c = sym c.loop.invariant ∙ walk_high _ _ _ _ _ c.if-b-g.true

pub returns-then-get-eq1 : goal.returns-then-get-eq1
returns-then-get-eq1 g c = sym c.loop.invariant ∙ walk_met _ _ _ _ _ (sym c.get.ensures ∙ c.if-get-eq1.true)

pub returns-in-Last : goal.returns-in-Last
returns-in-Last g c =
    sym c.loop.invariant
    ∙ walk_on _ _ _ (c.args.g.nob - (c.loop.counter + 1)) _ _ c.put.new.s _ Last (omega arith) c.if-b-g.false c.get.ensures c.if-get-eq1.false c.put.ensures (sym c.step.ensures ∙ c.in-Last.is)

pub returns-in-Damage : goal.returns-in-Damage
returns-in-Damage g c =
    sym c.loop.invariant
    ∙ walk_on _ _ _ (c.args.g.nob - (c.loop.counter + 1)) _ _ c.put.new.s _ Damage (omega arith) c.if-b-g.false c.get.ensures c.if-get-eq1.false c.put.ensures (sym c.step.ensures ∙ c.in-Damage.is)

pub loop-preserved : goal.loop-preserved
loop-preserved g c =
    sym (walk_on _ _ _ (c.args.g.nob - (c.loop.counter + 1)) _ _ c.put.new.s _ (Further c.in-Further.next) (omega arith) c.if-b-g.false c.get.ensures c.if-get-eq1.false c.put.ensures (sym c.step.ensures ∙ c.in-Further.is))
    ∙ c.loop.invariant

pub returns : goal.returns
returns g c = sym c.loop.invariant ∙ walk_out _ _ _ _ _ (omega arith)
