-- With no low bits left out it is the low half; with all of them left out, the high one shifted (`above_two`).
use Prim.Native.Nat.{◌-◌}
use mathlib.Core.Path.{sym}
use native.Mathlib.Nat.{div-one}
use native.Mathlib.Omega.{arith}
use lib.Pow.{low}
use Rattle.bits.specs.theory.Numbers.{above_two}
use Rattle.bits.proofs.number.part_of_two.Goals as goal

pub returns-then-k-eq0 : goal.returns-then-k-eq0
returns-then-k-eq0 c =
    let a = c.args in
    rw (c.if-k-eq0.true, div-one) (sym (low a.high 64 (omega arith)))

pub returns : goal.returns
returns c =
    let a = c.args in
    above_two a.high a.low (a.k - 64) a.k 64 (omega arith) (omega arith) (omega arith)
