-- The field replaced in the word, and the word written, is the field written (`put_sub`).
use Prim.Native.Nat.{◌*◌}
use mathlib.Core.Path.{◌∙◌}
use native.Mathlib.Omega.{arith}
use Rattle.bits.specs.theory.Puts.{put_sub}
use Rattle.bits.proofs.word.put.Goals as goal

pub returns : goal.returns
returns c =
    let a = c.args in
    c.store.ensures
    ∙ rw (c.replace-w.ensures, c.load.ensures)
    (put_sub a.s.now (8 * a.i) 64 a.a a.n _ a.v (omega arith) (omega arith) (omega arith))
