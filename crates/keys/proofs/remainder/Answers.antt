-- Each arm is the law `folded_same` at its own prime and coefficients, whose remainders are computed.
use mathlib.Core.Path.{◌≡◌, refl, sym, ap, ap₂, ◌∙◌}
use Prim.Native.Nat.{ℕ, ◌+◌, ◌-◌, ◌*◌, ◌/◌, ◌%◌, ◌^◌, ◌≤◌}
use native.Mathlib.Nat.{le_antisymm, mod-eq_of_lt}
use native.Mathlib.Omega.{arith}
use lib.ListN.{get_or}
use Rattle.settings.specs.theory.Arms.{at_least}
use Rattle.settings.specs.Prime.{prime_above}
use Rattle.settings.specs.theory.Primes.{primes, prime_table}
use Rattle.keys.proofs.Remainders.{folded_same}
use Rattle.keys.proofs.remainder.Goals as goal
use Rattle.keys.proofs.remainder.Goals.{Start}

module _ (start : Start) (k c₁ c₂ c₃ : ℕ) where
  abbrev p : ℕ
  p = get_or primes k 0

  abbrev a : ℕ
  a = start.args.a

  abbrev b : ℕ
  b = start.args.b

  abbrev high : ℕ
  high = start.args.high % 2 ^ (64 - k)

  abbrev low : ℕ
  low = start.args.low

  arm : c₁ % p ≡ 2 ^ 32 % p → c₂ % p ≡ 2 ^ 64 % p → c₃ % p ≡ 2 ^ 96 % p → start.args.bii ≡ k → {r : ℕ}
      → r ≡ a * (low % 2 ^ 32 + low / 2 ^ 32 * c₁ + high % 2 ^ 32 * c₂ + high / 2 ^ 32 * c₃) + b
      → r % p ≡ (a * (start.args.high % 2 ^ (64 - start.args.bii) * 2 ^ 64 + low) + b) % prime_above start.args.bii
  arm h₁ h₂ h₃ is-k sum =
      let small : k ≤ 16 = rw is-k at start.requires.0 in
      ap (λ (x : ℕ). x % p) sum ∙ folded_same p c₁ c₂ c₃ h₁ h₂ h₃ a b high low
      ∙ ap₂ (λ (x y : ℕ). (a * (start.args.high % 2 ^ (64 - x) * 2 ^ 64 + low) + b) % y) (sym is-k) (sym (ap prime_above is-k ∙ prime_table k small))

pub returns-in-0 : goal.returns-in-0
returns-in-0 c =
    let a = c.args in
    let whole : a.high ≡ a.high % 2 ^ 64 = sym (mod-eq_of_lt (omega arith)) in
    let sum : ℕ → ℕ = λ h. a.a * (a.low % 2 ^ 32 + a.low / 2 ^ 32 * 0 + h % 2 ^ 32 * 0 + h / 2 ^ 32 * 0) + a.b in
    arm (goal.at.returns-in-0 c).Start 0 0 0 0 refl refl refl c.in-0.is (c.folded.ensures ∙ ap sum whole)

pub returns-in-1 : goal.returns-in-1
returns-in-1 c = arm (goal.at.returns-in-1 c).Start 1 1 1 1 refl refl refl c.in-1.is c.folded-in-1.ensures

pub returns-in-2 : goal.returns-in-2
returns-in-2 c = arm (goal.at.returns-in-2 c).Start 2 1 1 1 refl refl refl c.in-2.is c.folded-in-2.ensures

pub returns-in-3 : goal.returns-in-3
returns-in-3 c = arm (goal.at.returns-in-3 c).Start 3 4 5 9 refl refl refl c.in-3.is c.folded-in-3.ensures

pub returns-in-4 : goal.returns-in-4
returns-in-4 c = arm (goal.at.returns-in-4 c).Start 4 1 1 1 refl refl refl c.in-4.is c.folded-in-4.ensures

pub returns-in-5 : goal.returns-in-5
returns-in-5 c = arm (goal.at.returns-in-5 c).Start 5 7 12 10 refl refl refl c.in-5.is c.folded-in-5.ensures

pub returns-in-6 : goal.returns-in-6
returns-in-6 c = arm (goal.at.returns-in-6 c).Start 6 33 17 25 refl refl refl c.in-6.is c.folded-in-6.ensures

pub returns-in-7 : goal.returns-in-7
returns-in-7 c = arm (goal.at.returns-in-7 c).Start 7 117 65 7 refl refl refl c.in-7.is c.folded-in-7.ensures

pub returns-in-8 : goal.returns-in-8
returns-in-8 c = arm (goal.at.returns-in-8 c).Start 8 1 1 1 refl refl refl c.in-8.is c.folded-in-8.ensures

pub returns-in-9 : goal.returns-in-9
returns-in-9 c = arm (goal.at.returns-in-9 c).Start 9 117 143 59 refl refl refl c.in-9.is c.folded-in-9.ensures

pub returns-in-10 : goal.returns-in-10
returns-in-10 c = arm (goal.at.returns-in-10 c).Start 10 690 809 439 refl refl refl c.in-10.is c.folded-in-10.ensures

pub returns-in-11 : goal.returns-in-11
returns-in-11 c = arm (goal.at.returns-in-11 c).Start 11 964 1340 423 refl refl refl c.in-11.is c.folded-in-11.ensures

pub returns-in-12 : goal.returns-in-12
returns-in-12 c = arm (goal.at.returns-in-12 c).Start 12 2304 211 2462 refl refl refl c.in-12.is c.folded-in-12.ensures

pub returns-in-13 : goal.returns-in-13
returns-in-13 c = arm (goal.at.returns-in-13 c).Start 13 2078 150 7967 refl refl refl c.in-13.is c.folded-in-13.ensures

pub returns-in-14 : goal.returns-in-14
returns-in-14 c = arm (goal.at.returns-in-14 c).Start 14 11664 1706 8652 refl refl refl c.in-14.is c.folded-in-14.ensures

pub returns-in-15 : goal.returns-in-15
returns-in-15 c = arm (goal.at.returns-in-15 c).Start 15 36 1296 13885 refl refl refl c.in-15.is c.folded-in-15.ensures

pub returns-in_default : goal.returns-in_default
returns-in_default c = arm (goal.at.returns-in_default c).Start 16 1 1 1 refl refl refl (le_antisymm c.requires.0 (at_least 16 _ c.in_default.in_default-own.rest)) c.folded-in_default.ensures
