-- By the word in which bit n lies. The number is below 2 ^ 128, so its high word fits; the low word joins 64 - n bits and n bits.
use mathlib.Core.Path.{sym, ap, ◌∙◌}
use Prim.Native.Nat.{ℕ, ◌+◌, ◌-◌, ◌*◌, ◌%◌, ◌^◌, ◌≤◌, ◌<◌}
use native.Mathlib.Nat.{zero-add, le-add_left, le_of_eq, lt_of_le_of_lt}
use native.Mathlib.Omega.{arith}
use lib.Pow.{pow_pos}
use Rattle.keys.specs.Key.{key_number}
use Rattle.keys.specs.theory.Keys.{key_from}
use Rattle.keys.specs.theory.Halves.{no_top, high_fits, only_low, join_high, join_low, join_low_fits}
use Rattle.keys.proofs.Key.with_top.Goals as goal
use Rattle.keys.proofs.Key.with_top.Goals.{Start}

fits : (s : Start) → s.args.self.low < 2 ^ 64
fits s = omega arith

high_below : (s : Start) → 64 ≤ s.args.n → s.args.top * 2 ^ (s.args.n - 64) + s.args.self.high < 2 ^ 64
unfolding key_number
high_below s cut =
    let k = s.args.self in
    high_fits _ k.low (lt_of_le_of_lt (le_of_eq (join_high s.args.top k.high k.low cut)) s.requires.3)

low_below : (s : Start) → s.args.n ≤ 63
    → s.args.top % 2 ^ (64 - s.args.n) * 2 ^ s.args.n + s.args.self.low < 2 ^ 64
unfolding key_number
low_below s cut =
    let k = s.args.self in
    join_low_fits s.args.top (lt_of_le_of_lt (le-add_left k.low (k.high * 2 ^ 64)) s.requires.2) cut

pub returns-then-n-eq128 : goal.returns-then-n-eq128
returns-then-n-eq128 c =
    let none = no_top c.args.top (key_number c.args.self) (rw c.if-n-eq128.true at c.requires.3) in
    key_from c.args.self (fits (goal.at.returns-then-n-eq128 c).Start) (rw (none, c.if-n-eq128.true) (sym (zero-add _)))

pub overflow_mul-result : goal.overflow_mul-result
overflow_mul-result c = rw c.pow.ensures (omega (arith, high_below (goal.at.overflow_mul-result c).Start c.if-n-ge64.true))

pub overflow_add-result : goal.overflow_add-result
overflow_add-result c =
    rw c.pow.ensures
    (omega (arith, high_below (goal.at.overflow_add-result c).Start c.if-n-ge64.true))

pub returns-then-n-ge64 : goal.returns-then-n-ge64
unfolding key_number
returns-then-n-ge64 c =
    let k = c.args.self in
    key_from _ (fits (goal.at.returns-then-n-ge64 c).Start)
    (rw c.pow.ensures (join_high c.args.top k.high k.low c.if-n-ge64.true))

pub nonzero_div-result : goal.nonzero_div-result
nonzero_div-result c = rw c.pow-room.ensures (pow_pos _)

pub nonzero_rem-result : goal.nonzero_rem-result
nonzero_rem-result c = rw c.pow-room.ensures (pow_pos _)

pub overflow_mul-result-2 : goal.overflow_mul-result-2
overflow_mul-result-2 c =
    rw (c.pow-room.ensures, c.pow-2.ensures)
    (omega (arith, low_below (goal.at.overflow_mul-result-2 c).Start (omega arith)))

pub overflow_add-result-2 : goal.overflow_add-result-2
overflow_add-result-2 c =
    rw (c.pow-room.ensures, c.pow-2.ensures)
    (omega (arith, low_below (goal.at.overflow_add-result-2 c).Start (omega arith)))

pub returns : goal.returns
unfolding key_number
returns c =
    let a = c.args in
    let cut : a.n ≤ 63 = omega arith in
    key_from _ (rw (c.pow-room.ensures, c.pow-2.ensures) (low_below (goal.at.returns c).Start cut))
    (rw (c.pow-room.ensures, c.pow-2.ensures)
    (join_low a.top a.self.low cut
    ∙ ap (λ (x : ℕ). a.top * 2 ^ a.n + x) (sym (only_low a.self.high a.self.low cut c.requires.2))))
