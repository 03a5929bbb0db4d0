-- Decimal digits: one, or those of a tenth and one more.
use Rattle.std.specs.Prelude.{◌≡◌, refl, List, [], ◌∷◌, ◌++◌, ℕ, zero, suc, ◌+◌, ◌-◌, ◌/◌, ◌%◌, ◌^◌, ◌≤◌, ◌<◌, length, ltb}
use Rattle.std.proofs.Common.{sym, ap, ◌∙◌, arith, length-append, pow-add, lt-ltb, le-ltb, ltb-true, ltb-false}
use Rattle.laws.specs.Cases.{cases}
use Rattle.text_write.specs.Decimal.{decimal_from, decimal_text}

-- more digits than enough are enough
enough : (k n : ℕ) → n ≤ k → decimal_from k n ≡ decimal_from (suc k) n
unfolding decimal_from
enough zero n h = rw (lt-ltb n 10 (omega arith)) refl
enough (suc k) n h =
    cases (ltb n 10) (λ e. rw e refl)
    (λ e.
    let l = ltb-false n 10 e in
    rw e (ap (λ (d : List ℕ). d ++ (48 + n % 10) ∷ []) (enough k (n / 10) (omega arith))))

enough_from : (k n d : ℕ) → n ≤ k → decimal_from k n ≡ decimal_from (k + d) n
enough_from k n zero h = ap (λ (m : ℕ). decimal_from m n) (omega arith)
enough_from k n (suc d) h =
    enough_from k n d h ∙ enough (k + d) n (omega arith) ∙ ap (λ (m : ℕ). decimal_from m n) (omega arith)

pub decimal_one : (n : ℕ) → n < 10 → decimal_text n ≡ (48 + n) ∷ []
unfolding decimal_text decimal_from
decimal_one zero h = refl
decimal_one (suc n) h = rw (lt-ltb (suc n) 10 h) refl

pub decimal_more : (n : ℕ) → 10 ≤ n → decimal_text n ≡ decimal_text (n / 10) ++ (48 + n % 10) ∷ []
unfolding decimal_text decimal_from
decimal_more zero h = absurd (omega arith)
decimal_more (suc n) h =
    let l : suc n / 10 ≤ n = omega arith in
    let e : suc n / 10 + (n - suc n / 10) ≡ n = omega arith in
    rw (le-ltb (suc n) 10 h)
    (ap (λ (d : List ℕ). d ++ (48 + suc n % 10) ∷ [])
    (ap (λ (m : ℕ). decimal_from m (suc n / 10)) (sym e) ∙ sym (enough_from (suc n / 10) (suc n / 10) (n - suc n / 10) (omega arith))))

-- a number of two or more digits has one more than its tenth
pub decimal_longer : (n : ℕ) → 10 ≤ n → length (decimal_text n) ≡ length (decimal_text (n / 10)) + 1
decimal_longer n h = ap length (decimal_more n h) ∙ length-append (decimal_text (n / 10)) ((48 + n % 10) ∷ [])

pub decimal_some : (n : ℕ) → 0 < length (decimal_text n)
decimal_some n =
    cases (ltb n 10) (λ e. omega (arith, ap length (decimal_one n (ltb-true n 10 e)))) (λ e. omega (arith, decimal_longer n (ltb-false n 10 e)))

pub decimal_length : (k n : ℕ) → n < 10 ^ suc k → length (decimal_text n) ≤ suc k
decimal_length zero n h = rw (decimal_one n (omega (arith, h))) (omega arith)
decimal_length (suc k) n h =
    cases (ltb n 10) (λ e. rw (decimal_one n (ltb-true n 10 e)) (omega arith))
    (λ e.
    omega (arith, decimal_longer n (ltb-false n 10 e), decimal_length k (n / 10) (omega (arith, h, pow-add 10 (suc k) 1))))

pub decimal_two : (n : ℕ) → 10 ≤ n → n < 100 → decimal_text n ≡ (48 + n / 10) ∷ (48 + n % 10) ∷ []
decimal_two n l h = decimal_more n l ∙ ap (λ (d : List ℕ). d ++ (48 + n % 10) ∷ []) (decimal_one (n / 10) (omega arith))

pub decimal_three : (n : ℕ) → 100 ≤ n → n < 1000 → decimal_text n ≡ (48 + n / 100) ∷ (48 + n / 10 % 10) ∷ (48 + n % 10) ∷ []
decimal_three n l h =
    let e : n / 10 / 10 ≡ n / 100 = omega arith in
    decimal_more n (omega arith)
    ∙ ap (λ (d : List ℕ). d ++ (48 + n % 10) ∷ []) (decimal_two (n / 10) (omega arith) (omega arith))
    ∙ ap (λ (q : ℕ). (48 + q) ∷ (48 + n / 10 % 10) ∷ (48 + n % 10) ∷ []) e

-- a number of 32 bits has at most ten digits
pub decimal_short : (n : ℕ) → n < 2 ^ 32 → length (decimal_text n) ≤ 10
decimal_short n h = decimal_length 9 n (omega (arith, h))

-- the three cases of a byte: one, two or three digits
pub by_count : {A : Type 0} (n : ℕ) → (n < 10 → A) → (10 ≤ n → n < 100 → A) → (100 ≤ n → A) → A
by_count n one two three =
    cases (ltb n 10) (λ e. one (ltb-true n 10 e))
    (λ d. cases (ltb n 100) (λ e. two (ltb-false n 10 d) (ltb-true n 100 e)) (λ e. three (ltb-false n 100 e)))
