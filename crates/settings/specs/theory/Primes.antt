-- What a prime is, two tests of it that are quick to compute, and the table of the smallest prime above each power of two.
use Rattle.std.specs.Prelude.{◌≡◌, ℕ, zero, suc, ◌+◌, ◌-◌, ◌*◌, ◌/◌, ◌%◌, ◌^◌, ◌<◌, ◌≤◌, Bool, true, false, cond, not, ◌&&◌, T, leb, List, [], ◌∷◌, ◌==◌, ◌≢◌, nat_le, nat_lt, slice_index, refl}
use Rattle.std.proofs.Common.{sym, ap, ◌∙◌, true≢false, ⊎_elim, le_refl, eq-or-lt_of_le, lt_of_not-le, div-add-mod', mul-le-mul, mul-le-mul_right, arith, leb→le, ltb-true, ltb-false, leb-true, le-leb, ne_eqb, eqb-true}
use Rattle.std.proofs.Math.Nat.{mul-mod_right}
use Rattle.std.proofs.lemmas.Bool.{eqb-false, not-true}
use Rattle.laws.specs.Cases.{cases, both_true, never}
use Rattle.laws.specs.Tables.{at}
use Rattle.settings.specs.Prime.{none_divides, is_prime, prime_above}
use Rattle.settings.specs.theory.Least.{least_from_lem, least_le, least_at}

T_true : (t : Bool) → T t → t ≡ true
T_true true h = refl
T_true false h = absurd h

-- ---- what the definition means

-- no number from 2 on and below m divides n
abbrev pub Undivided : ℕ → ℕ → Type 0
Undivided m n = (d : ℕ) → 2 ≤ d → d < m → n % d ≢ 0

none_means : (m n : ℕ) → none_divides m n ≡ true → Undivided m n
unfolding none_divides
none_means zero n t d l h z = omega arith
none_means (suc m) n t d l h z =
    let e : leb 2 m ≡ true = le-leb 2 m (omega arith) in
    let b = both_true (not (n % m == 0)) (none_divides m n) (rw e at t) in
    let k : d ≤ m = omega arith in
    ⊎_elim (λ q. eqb-false (n % m) 0 (not-true (n % m == 0) b.0) (rw q at z))
    (λ q. none_means m n b.1 d l q z)
    (eq-or-lt_of_le k)

means_none : (m n : ℕ) → Undivided m n → none_divides m n ≡ true
unfolding none_divides
means_none zero n h = refl
means_none (suc m) n h =
    cases (nat_le 2 m)
    (λ e. rw (e, ne_eqb (n % m) 0 (h m (leb-true 2 m e) (omega arith))) (means_none m n (λ d l k. h d l (omega arith))))
    (λ e. rw e)

-- a prime is a number from 2 on that no smaller number from 2 on divides
pub prime_means : (n : ℕ) → is_prime n ≡ true → (2 ≤ n) × ((d : ℕ) → 2 ≤ d → d < n → n % d ≢ 0)
unfolding is_prime
prime_means n t =
    let b = both_true (nat_le 2 n) (none_divides n n) t in
    (leb-true 2 n b.0, none_means n n b.1)

pub means_prime : (n : ℕ) → (2 ≤ n) × ((d : ℕ) → 2 ≤ d → d < n → n % d ≢ 0) → is_prime n ≡ true
unfolding is_prime
means_prime n h = rw (le-leb 2 n h.0) (means_none n n h.1)

-- ---- two tests that are quick to compute

-- trial division up to the root: no number from d on divides n
abbrev passes_trial : ℕ → ℕ → ℕ → Bool
passes_trial zero n d = false
passes_trial (suc turns) n d = cond (nat_lt n (d * d)) true (not (n % d == 0) && passes_trial turns n (suc d))

-- where no number below the root divides n, none at all does: the cofactor of a divisor from d on is below d
past_root : (n d : ℕ) → n < d * d → Undivided d n → Undivided n n
past_root n d root none e l h z =
    let whole : n / e * e ≡ n = (let s = div-add-mod' n e in omega arith) in
    cases (nat_lt e d) (λ t. none e l (ltb-true e d t) z)
    (λ t.
    none (n / e)
    (lt_of_not-le (λ k. let m = mul-le-mul_right e k in omega arith))
    (lt_of_not-le (λ k. let m = mul-le-mul k (ltb-false e d t) in omega arith))
    (ap (λ (x : ℕ). x % (n / e)) (sym whole) ∙ mul-mod_right (n / e) e))

undivided_more : (d n : ℕ) → Undivided d n → (n % d == 0) ≡ false → Undivided (suc d) n
undivided_more d n none t e l h z =
    let k : e ≤ d = omega arith in
    ⊎_elim (λ q. eqb-false (n % d) 0 t (rw q at z)) (λ q. none e l q z) (eq-or-lt_of_le k)

trial_means : (turns n d : ℕ) → passes_trial turns n d ≡ true → Undivided d n → Undivided n n
trial_means zero n d t none = never t
trial_means (suc turns) n d t none =
    cases (nat_lt n (d * d)) (λ e. past_root n d (ltb-true n (d * d) e) none)
    (λ e.
    let b = both_true (not (n % d == 0)) (passes_trial turns n (suc d)) (rw e at t) in
    trial_means turns n (suc d) b.1 (undivided_more d n none (not-true (n % d == 0) b.0)))

-- a witness: some number from d on, below n, divides n
abbrev has_witness : ℕ → ℕ → ℕ → Bool
has_witness zero n d = false
has_witness (suc turns) n d = nat_lt d n && cond (n % d == 0) true (has_witness turns n (suc d))

witness_means : (turns n d : ℕ) → 2 ≤ d → has_witness turns n d ≡ true → is_prime n ≢ true
witness_means zero n d l t p = true≢false (sym t)
witness_means (suc turns) n d l t p =
    let b = both_true (nat_lt d n) (cond (n % d == 0) true (has_witness turns n (suc d))) t in
    cases (n % d == 0) (λ e. (prime_means n p).1 d l (ltb-true d n b.0) (eqb-true (n % d) 0 e))
    (λ e. witness_means turns n (suc d) (omega arith) (rw e at b.1) p)

-- each of the `count` numbers from n on has a witness
abbrev all_composite : ℕ → ℕ → Bool
all_composite zero n = true
all_composite (suc count) n = has_witness 256 n 2 && all_composite count (suc n)

composite_means : (count n : ℕ) → all_composite count n ≡ true → (q : ℕ) → n ≤ q → q < n + count → is_prime q ≡ false
composite_means zero n t q l h = absurd (let z : ⊥ = omega arith in z)
composite_means (suc count) n t q l h =
    let b = both_true (has_witness 256 n 2) (all_composite count (suc n)) t in
    ⊎_elim
    (λ e. cases (is_prime q) (λ p. absurd (witness_means 256 n 2 (le_refl 2) b.0 (rw (← e) at p))) (λ p. p))
    (λ k. composite_means count (suc n) b.1 q k (omega arith))
    (eq-or-lt_of_le l)

-- ---- the table

-- by these tests p is the smallest prime above 2 ^ k
abbrev is_prime_above : ℕ → ℕ → Bool
is_prime_above k p =
    nat_le 2 p && passes_trial 256 p 2 && nat_lt (2 ^ k) p && nat_le p (2 ^ k + 1 + 2 ^ k) && all_composite (p - (2 ^ k + 1)) (2 ^ k + 1)

above_means : (k p : ℕ) → is_prime_above k p ≡ true → (is_prime p ≡ true) × (prime_above k ≡ p)
unfolding prime_above
above_means k p t =
    let e = both_true _ (all_composite (p - (2 ^ k + 1)) (2 ^ k + 1)) t in
    let d = both_true _ (nat_le p (2 ^ k + 1 + 2 ^ k)) e.0 in
    let c = both_true _ (nat_lt (2 ^ k) p) d.0 in
    let b = both_true (nat_le 2 p) (passes_trial 256 p 2) c.0 in
    let low = ltb-true (2 ^ k) p c.1 in
    let prime = means_prime p (leb-true 2 p b.0, trial_means 256 p 2 b.1 (λ q l h z. omega arith)) in (
      prime,
      least_at is_prime (2 ^ k) (2 ^ k + 1) p (omega arith) (leb-true p (2 ^ k + 1 + 2 ^ k) d.1) prime
          (λ q l h. composite_means (p - (2 ^ k + 1)) (2 ^ k + 1) e.1 q l (omega arith)),
    )

abbrev pub primes : List ℕ
primes =
    2 ∷ 3 ∷ 5 ∷ 11 ∷ 17 ∷ 37 ∷ 67 ∷ 131 ∷ 257 ∷ 521 ∷ 1031 ∷ 2053 ∷ 4099 ∷ 8209 ∷ 16411 ∷ 32771 ∷ 65537 ∷ []

in_table : (k : ℕ) → k ≤ 16 → (is_prime (slice_index primes k) ≡ true) × (prime_above k ≡ slice_index primes k)
in_table k h = above_means k (slice_index primes k) (T_true _ (at is_prime_above primes tt k (omega arith)))

pub prime_table : (k : ℕ) → k ≤ 16 → prime_above k ≡ slice_index primes k
prime_table k h = (in_table k h).1

-- ---- clause 2.4: the smallest prime above 2 ^ bii

pub prime_prime : (k : ℕ) → k ≤ 16 → is_prime (prime_above k) ≡ true
prime_prime k h = ap is_prime (prime_table k h) ∙ (in_table k h).0

pub prime_above_lem : (k : ℕ) → 2 ^ k < prime_above k
unfolding prime_above
prime_above_lem k = omega (arith, least_from_lem is_prime (2 ^ k) (2 ^ k + 1))

pub prime_least : (k q : ℕ) → is_prime q ≡ true → 2 ^ k < q → prime_above k ≤ q
unfolding prime_above
prime_least k q t h = least_le is_prime (2 ^ k) (2 ^ k + 1) q t (omega arith)

pub prime_high : (k : ℕ) → k ≤ 16 → prime_above k ≤ 65537
prime_high k h = rw (prime_table k h) (leb→le _ 65537 (at (λ k p. leb p 65537) primes tt k (omega arith)))
