-- The field is a part of the word's 64 bits (`sub_field`).
use Prim.Native.Nat.{◌*◌}
use mathlib.Core.Path.{◌∙◌}
use native.Mathlib.Omega.{arith}
use Rattle.bits.specs.theory.Fields.{sub_field}
use Rattle.bits.proofs.word.get.Goals as goal

pub returns : goal.returns
returns c =
    let a = c.args in
    c.part.ensures
    ∙ rw c.load.ensures (sub_field a.s.now (8 * a.i) 64 a.a a.n _ (omega arith))
