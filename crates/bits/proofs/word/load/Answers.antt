-- Eight bytes, lowest first, swapped round are the field of their 64 bits (`load_word`).
use mathlib.Core.Path.{◌∙◌}
use native.Mathlib.Omega.{arith}
use Rattle.bits.specs.theory.Words.{load_word}
use Rattle.bits.proofs.word.load.Goals as goal

pub returns : goal.returns
returns c =
    let a = c.args in
    c.swap_bytes.ensures
    ∙ load_word a.s.now a.i (λ j. omega (arith, c.shared_slice_known-1.given j)) c.low_first.result c.low_first.ensures
