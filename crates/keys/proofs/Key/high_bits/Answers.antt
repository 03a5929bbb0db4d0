-- By the word in which bit n lies.
use mathlib.Core.Path.{sym}
use Prim.Native.Nat.{◌+◌, ◌-◌, ◌*◌, ◌/◌, ◌^◌, ◌≤◌, ◌<◌}
use native.Mathlib.Nat.{div-eq_of_lt, le_of_eq, lt_of_le_of_lt}
use native.Mathlib.Omega.{arith}
use lib.Pow.{pow_pos, shr_lt}
use Rattle.keys.specs.Key.{key_number}
use Rattle.keys.specs.theory.Keys.{key_below}
use Rattle.keys.specs.theory.Halves.{div_high, div_low}
use Rattle.keys.proofs.Key.high_bits.Goals as goal
use Rattle.keys.proofs.Key.high_bits.Goals.{Start}

fits : (s : Start) → (s.args.self.high < 2 ^ 64) × (s.args.self.low < 2 ^ 64)
fits s = omega arith

-- the words of the answer join to at most 16 bits
sum_below : (s : Start) → s.args.n ≤ 63
    → s.args.self.high * 2 ^ (64 - s.args.n) + s.args.self.low / 2 ^ s.args.n < 2 ^ 16
unfolding key_number
sum_below s cut =
    lt_of_le_of_lt (le_of_eq (sym (div_low s.args.self.high (fits s).1 cut))) (shr_lt 16 s.args.n s.requires.2)

pub returns-then-n-eq128 : goal.returns-then-n-eq128
returns-then-n-eq128 c =
    let f = fits (goal.at.returns-then-n-eq128 c).Start in
    rw c.if-n-eq128.true (sym (div-eq_of_lt (key_below c.args.self f.0 f.1)))

pub nonzero_div-result : goal.nonzero_div-result
nonzero_div-result c = rw c.pow.ensures (pow_pos _)

pub returns-then-n-ge64 : goal.returns-then-n-ge64
unfolding key_number
returns-then-n-ge64 c =
    rw c.pow.ensures (sym (div_high c.args.self.high (fits (goal.at.returns-then-n-ge64 c).Start).1 c.if-n-ge64.true))

pub overflow_mul-result : goal.overflow_mul-result
overflow_mul-result c =
    rw c.pow-2.ensures (omega (arith, sum_below (goal.at.overflow_mul-result c).Start (omega arith)))

pub nonzero_div-result-2 : goal.nonzero_div-result-2
nonzero_div-result-2 c = rw c.pow-3.ensures (pow_pos _)

pub overflow_add-result : goal.overflow_add-result
overflow_add-result c =
    rw (c.pow-2.ensures, c.pow-3.ensures) (omega (arith, sum_below (goal.at.overflow_add-result c).Start (omega arith)))

pub returns : goal.returns
unfolding key_number
returns c =
    rw (c.pow-2.ensures, c.pow-3.ensures)
    (sym (div_low c.args.self.high (fits (goal.at.returns c).Start).1 (omega arith)))
