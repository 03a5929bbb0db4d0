-- The bytes taken lowest first are q exactly if the field is q swapped round (`four_same`, `same_four`).
use mathlib.Core.Path.{ap, ◌∙◌}
use Prim.Native.Nat.{ℕ}
use native.Mathlib.Omega.{arith}
use lib.Dec.{eqb}
use Rattle.laws.specs.Tests.{eqb_iff}
use Rattle.bits.specs.theory.Words.{four_same, same_four}
use Rattle.bits.proofs.four_is.Goals as goal

pub returns : goal.returns
returns c =
    let a = c.args in
    ap (λ (x : ℕ). eqb x a.q) c.low_first_four.ensures
    ∙ eqb_iff _ _ _ _
    (four_same a.s.now a.i (λ j. omega (arith, c.shared_slice_known-1.given j)) a.q)
    (same_four a.s.now a.i (λ j. omega (arith, c.shared_slice_known-1.given j)) a.q c.requires.1)
