-- A field within a byte is the byte shifted right, less what stands before the field (`field_in`).
use Prim.Native.Nat.{ℕ, ◌-◌, ◌/◌, ◌%◌, ◌^◌}
use mathlib.Core.Path.{sym, ap, ◌∙◌}
use native.Mathlib.Omega.{arith}
use Rattle.bits.specs.theory.Fields.{field_in}
use Rattle.bits.proofs.byte.get.Goals as goal

pub returns : goal.returns
returns c =
    let a = c.args in
    c.part.ensures
    ∙ ap (λ (x : ℕ). x / 2 ^ (8 - a.a - a.n) % 2 ^ a.n) c.from.ensures
    ∙ sym (field_in a.s.now a.i a.a a.n _ (omega arith))
