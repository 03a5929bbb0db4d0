-- Sums of f 0, f 1, .. f (n - 1), and how often numbers stand in lists.
use Rattle.std.specs.Prelude.{◌≡◌, refl, cond, List, [], ◌∷◌, ℕ, zero, suc, ◌+◌, ◌<◌, eqb, length}
use Rattle.std.proofs.Common.{arith, eq-eqb}
use Rattle.std.proofs.Math.Dec.{eqb-suc-suc, eqb-suc-zero, eqb-zero-suc}
use Rattle.laws.specs.Folds.{count, sum_below}

-- equal summands
pub sum_ext : (n : ℕ) (f g : ℕ → ℕ) → ((i : ℕ) → i < n → f i ≡ g i) → sum_below n f ≡ sum_below n g
sum_ext zero f g h = refl
sum_ext (suc n) f g h = omega (arith, h 0 (omega arith), sum_ext n (λ i. f (suc i)) (λ i. g (suc i)) (λ i l. h (suc i) (omega arith)))

-- a sum, by its last summand
pub sum_last : (n : ℕ) (f : ℕ → ℕ) → sum_below (suc n) f ≡ sum_below n f + f n
sum_last zero f = omega arith
sum_last (suc n) f = omega (arith, sum_last n (λ i. f (suc i)))

-- two sums in one
pub sum_add : (n : ℕ) (f g : ℕ → ℕ) → sum_below n (λ i. f i + g i) ≡ sum_below n f + sum_below n g
sum_add zero f g = omega arith
sum_add (suc n) f g = omega (arith, sum_add n (λ i. f (suc i)) (λ i. g (suc i)))

-- n zeros, and n ones
pub sum_zero : (n : ℕ) → sum_below n (λ i. 0) ≡ 0
sum_zero zero = refl
sum_zero (suc n) = omega (arith, sum_zero n)

pub sum_one : (n : ℕ) → sum_below n (λ i. 1) ≡ n
sum_one zero = refl
sum_one (suc n) = omega (arith, sum_one n)

-- one number below n is x
sum_hit : (n x : ℕ) → x < n → sum_below n (λ j. cond (eqb j x) 1 0) ≡ 1
sum_hit zero x h = absurd (omega arith)
sum_hit (suc n) zero h =
    omega (arith, sum_ext n (λ j. cond (eqb (suc j) 0) 1 0) (λ j. 0) (λ j l. rw (eqb-suc-zero j)), sum_zero n)
sum_hit (suc n) (suc x) h =
    rw (eqb-zero-suc x)
    (omega (arith, sum_ext n (λ j. cond (eqb (suc j) (suc x)) 1 0) (λ j. cond (eqb j x) 1 0) (λ j l. rw (eqb-suc-suc j x)), sum_hit n x (omega arith)))

-- the first of a list occurs in it
pub occurs_head : (x : ℕ) (xs : List ℕ) → 0 < count (eqb x) (x ∷ xs)
occurs_head x xs = rw (eq-eqb x x refl) (omega arith)

-- the numbers of a list, all below n, each counted
pub sum_occurs : (n : ℕ) (xs : List ℕ) → ((j : ℕ) → 0 < count (eqb j) xs → j < n) → sum_below n (λ j. count (eqb j) xs) ≡ length xs
sum_occurs n [] h = sum_zero n
sum_occurs n (x ∷ xs) h =
    omega (
      arith,
      sum_add n (λ j. cond (eqb j x) 1 0) (λ j. count (eqb j) xs),
      sum_hit n x (h x (occurs_head x xs)),
      sum_occurs n xs (λ j l. h j (omega arith)),
    )
