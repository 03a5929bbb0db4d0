-- The bits passed are zero.
use mathlib.Core.Path.{◌≡◌, sym, ◌∙◌}
use Prim.Native.Nat.{◌+◌, ◌-◌}
use native.Mathlib.Omega.{arith}
use borrow.Author.Tests.{eq-eqb, ne_eqb}
use Rattle.bits.specs.theory.Fields.{field_zero}
use Rattle.table_check.proofs.Zeros.{zero_part, zero_more}
use Rattle.table_check.proofs.bytes.zeros.Goals as goal

pub loop-k-init : goal.loop-k-init
loop-k-init c = (omega arith, field_zero _ _)

pub returns-then-get-ne0 : goal.returns-then-get-ne0
returns-then-get-ne0 c =
    let m = c.min-m.result in
    sym
    (ne_eqb _ 0
    (λ z. c.if-get-ne0.true (c.get.ensures ∙ zero_part c.args.t.now c.args.at c.args.n c.loop-k.k m (c.args.n - (c.loop-k.k + m)) (omega arith) z)))

pub loop-k-preserved : goal.loop-k-preserved
loop-k-preserved c = (
  omega arith,
  zero_more _ _ c.loop-k.k c.min-m.result _ (omega arith) c.loop-k.invariant.1 (sym c.get.ensures ∙ c.if-get-ne0.false),
)

pub returns-else-get-ne0 : goal.returns-else-get-ne0
returns-else-get-ne0 c =
    sym
    (eq-eqb _ 0 (zero_more _ _ c.loop-k.k c.min-m.result _ (omega arith) c.loop-k.invariant.1 (sym c.get.ensures ∙ c.if-get-ne0.false)))

pub returns : goal.returns
returns c =
    let e : c.loop-k.k ≡ c.args.n = omega arith in
    sym (eq-eqb _ 0 (rw e at c.loop-k.invariant.1))
