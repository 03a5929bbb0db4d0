-- By the word in which bit n lies.
use mathlib.Core.Path.{sym, ◌∙◌}
use Prim.Native.Nat.{◌^◌, ◌<◌}
use native.Mathlib.Nat.{zero-add, mod-eq_of_lt, mod-le, lt_of_le_of_lt}
use native.Mathlib.Omega.{arith}
use lib.Pow.{pow_pos}
use Rattle.keys.specs.Key.{key_number}
use Rattle.keys.specs.theory.Keys.{key_below, key_from}
use Rattle.keys.specs.theory.Halves.{mod_high, mod_low}
use Rattle.keys.proofs.Key.low_bits.Goals as goal
use Rattle.keys.proofs.Key.low_bits.Goals.{Start}

fits : (s : Start) → (s.args.self.high < 2 ^ 64) × (s.args.self.low < 2 ^ 64)
fits s = omega arith

pub returns-then-n-eq128 : goal.returns-then-n-eq128
returns-then-n-eq128 c =
    let f = fits (goal.at.returns-then-n-eq128 c).Start in
    let k = c.args.self in
    rw c.if-n-eq128.true (key_from k f.1 (sym (mod-eq_of_lt (key_below k f.0 f.1))))

pub nonzero_rem-result : goal.nonzero_rem-result
nonzero_rem-result c = rw c.pow.ensures (pow_pos _)

pub returns-then-n-ge64 : goal.returns-then-n-ge64
unfolding key_number
returns-then-n-ge64 c =
    key_from _ (fits (goal.at.returns-then-n-ge64 c).Start).1
    (rw c.pow.ensures (sym (mod_high c.args.self.high (fits (goal.at.returns-then-n-ge64 c).Start).1 c.if-n-ge64.true)))

pub nonzero_rem-result-2 : goal.nonzero_rem-result-2
nonzero_rem-result-2 c = rw c.pow-2.ensures (pow_pos _)

pub returns : goal.returns
unfolding key_number
returns c =
    key_from _ (lt_of_le_of_lt (mod-le c.args.self.low c.pow-2.result) (fits (goal.at.returns c).Start).1)
    (rw c.pow-2.ensures (zero-add _ ∙ sym (mod_low c.args.self.high (fits (goal.at.returns c).Start).1 (omega arith))))
