-- Of the digits that are stored, the last count: `dot_back`.
use Prim.Native.Nat.{◌+◌, ◌-◌}
use native.Mathlib.Omega.{arith}
use Rattle.text_write.proofs.Backwards.{dot_back}
use Rattle.text_write.proofs.mapped.put_with_dot.Goals as goal

pub returns : goal.returns
returns c =
    let a = c.args in
    dot_back a.text.now c.put_four.new.text (a.end - 3) (a.end + 1) a.byte (omega (arith, c.requires)) (omega (arith, c.requires)) c.requires.2 _ c.digits_and_dot.ensures
    c.put_four.ensures
