-- Of the digits that are stored, the last count: `decimal_back`.
use mathlib.Core.Path.{ap}
use Prim.Native.Nat.{ℕ, ◌-◌, ◌*◌}
use native.Mathlib.Omega.{arith}
use Rattle.text_write.proofs.Backwards.{decimal_back}
use Rattle.text_write.proofs.mapped.put_decimal.Goals as goal

pub returns : goal.returns
returns c =
    let a = c.args in
    decimal_back a.text.now c.put_four.new.text (a.end - 4) a.end a.byte (omega (arith, c.requires)) (omega (arith, c.requires)) c.requires.2 _ (ap (λ (x : ℕ). x * 256) c.digits_and_dot.ensures)
    c.put_four.ensures
