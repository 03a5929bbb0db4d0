-- A field is read in one, two or three parts, and put in one or two, the last first.
use mathlib.Core.Path.{◌≡◌, refl, sym, ap, ap₂, ◌∙◌}
use Prim.Native.Nat.{ℕ, ◌+◌, ◌-◌, ◌*◌, ◌^◌}
use native.Mathlib.Nat.{zero-add}
use native.Mathlib.Omega.{arith}
use Rattle.bits.specs.Field.{field}
use Rattle.bits.specs.Put.{put_field}
use Rattle.bits.specs.theory.Fields.{field_lt, field_parts}
use Rattle.bits.specs.theory.Words.{field_two}
use Rattle.table_store.specs.theory.StoreLaws.{put_back}
use Rattle.table_store.proofs.slots.copy.Goals as goal
use Rattle.table_store.proofs.slots.copy.Goals.{After-get-low, After-get-low-2}

pub put_wide-requires : goal.put_wide-requires
put_wide-requires c = (omega arith, omega arith, omega arith, rw (zero-add, c.get-x.ensures) (field_lt _ _ _))

both : (c : After-get-low) → let a = c.args in
    c.get-high.result * 2 ^ 64 + c.get-low.result ≡ field a.t.now a.from a.n
both c =
    let a = c.args in
    field_parts a.t.now a.from (a.n - 64) 64 a.n _ _ (omega arith) c.get-high.ensures c.get-low.ensures

pub put_wide-requires-then-n-le128 : goal.put_wide-requires-then-n-le128
put_wide-requires-then-n-le128 c = (omega arith, omega arith, omega arith, rw (both (goal.at.put_wide-requires-then-n-le128 c).After-get-low) (field_lt _ _ _))

pub returns-then-n-le128 : goal.returns-then-n-le128
returns-then-n-le128 c =
    let a = c.args in
    c.put_wide-then-n-le128.ensures ∙ ap (put_field a.t.now a.to a.n) (both (goal.at.returns-then-n-le128 c).After-get-low)

first : (c : After-get-low-2) → let a = c.args in
    c.get-high-2.result * 2 ^ 64 + c.get-low-2.result ≡ field a.t.now a.from 128
first c =
    let a = c.args in
    field_parts a.t.now a.from 64 64 128 _ _ refl c.get-high-2.ensures c.get-low-2.ensures

pub put_wide-requires-2 : goal.put_wide-requires-2
put_wide-requires-2 c = (omega arith, omega arith, omega arith, rw (zero-add, c.get-rest.ensures) (field_lt _ _ _))

pub returns : goal.returns
returns c =
    let a = c.args in
    let r = c.get-rest in
    put_back a.t.now _ _ a.to 128 (a.to + 128) (a.n - 128) a.n _ _ _ (λ j. omega (arith, c.slice_known-1.given j)) (omega arith) refl (omega arith)
    (rw (zero-add, r.ensures) (field_lt _ _ _))
    (sym (ap₂ (λ (x y : ℕ). x * 2 ^ (a.n - 128) + y) (first (goal.at.returns c).After-get-low-2) (zero-add _ ∙ r.ensures) ∙ field_two a.t.now a.from 128 (a.from + 128) (a.n - 128) a.from a.n refl refl (omega arith)))
    c.put_wide-2.ensures c.put_wide-3.ensures
