-- Each arm has the power, which is computed, and its entry of `prime_table`; no number is left for the last.
use Rattle.std.proofs.Common.{◌≡◌, ℕ, ◌^◌, ◌≤◌, get_or, sym, ap, ◌∙◌, arith}
use Rattle.settings.specs.theory.Arms.{at_least}
use Rattle.settings.specs.Prime.{prime_above}
use Rattle.settings.specs.theory.Primes.{primes, prime_table}
use Rattle.settings.proofs.settings.lists_of.Goals as goal

arm : (k : ℕ) {n : ℕ} → n ≡ k → k ≤ 16 → (2 ^ k ≡ 2 ^ n) × (get_or primes k 0 ≡ prime_above n)
arm k e h = (ap (λ (x : ℕ). 2 ^ x) (sym e), sym (ap prime_above e ∙ prime_table k h))

pub returns-in-0 : goal.returns-in-0
returns-in-0 c = arm 0 c.in-0.is (omega arith)

pub returns-in-1 : goal.returns-in-1
returns-in-1 c = arm 1 c.in-1.is (omega arith)

pub returns-in-2 : goal.returns-in-2
returns-in-2 c = arm 2 c.in-2.is (omega arith)

pub returns-in-3 : goal.returns-in-3
returns-in-3 c = arm 3 c.in-3.is (omega arith)

pub returns-in-4 : goal.returns-in-4
returns-in-4 c = arm 4 c.in-4.is (omega arith)

pub returns-in-5 : goal.returns-in-5
returns-in-5 c = arm 5 c.in-5.is (omega arith)

pub returns-in-6 : goal.returns-in-6
returns-in-6 c = arm 6 c.in-6.is (omega arith)

pub returns-in-7 : goal.returns-in-7
returns-in-7 c = arm 7 c.in-7.is (omega arith)

pub returns-in-8 : goal.returns-in-8
returns-in-8 c = arm 8 c.in-8.is (omega arith)

pub returns-in-9 : goal.returns-in-9
returns-in-9 c = arm 9 c.in-9.is (omega arith)

pub returns-in-10 : goal.returns-in-10
returns-in-10 c = arm 10 c.in-10.is (omega arith)

pub returns-in-11 : goal.returns-in-11
returns-in-11 c = arm 11 c.in-11.is (omega arith)

pub returns-in-12 : goal.returns-in-12
returns-in-12 c = arm 12 c.in-12.is (omega arith)

pub returns-in-13 : goal.returns-in-13
returns-in-13 c = arm 13 c.in-13.is (omega arith)

pub returns-in-14 : goal.returns-in-14
returns-in-14 c = arm 14 c.in-14.is (omega arith)

pub returns-in-15 : goal.returns-in-15
returns-in-15 c = arm 15 c.in-15.is (omega arith)

pub returns-in-16 : goal.returns-in-16
returns-in-16 c = arm 16 c.in-16.is (omega arith)

pub returns-in_default : goal.returns-in_default
returns-in_default c = absurd (omega (arith, at_least 17 _ c.in_default.in_default-own.rest))
