-- The bytes taken lowest first are q exactly if the word is q swapped round (`word_same`, `same_word`).
use mathlib.Core.Path.{ap, ◌∙◌}
use Prim.Native.Nat.{ℕ}
use native.Mathlib.Omega.{arith}
use lib.Dec.{eqb}
use Rattle.laws.specs.Tests.{eqb_iff}
use Rattle.bits.specs.theory.Words.{word_same, same_word}
use Rattle.bits.proofs.word_is.Goals as goal

pub returns : goal.returns
returns c =
    let a = c.args in
    ap (λ (x : ℕ). eqb x a.q) c.low_first.ensures
    ∙ eqb_iff _ _ _ _
    (word_same a.s.now a.i (λ j. omega (arith, c.shared_slice_known-1.given j)) a.q)
    (same_word a.s.now a.i (λ j. omega (arith, c.shared_slice_known-1.given j)) a.q (omega arith))
