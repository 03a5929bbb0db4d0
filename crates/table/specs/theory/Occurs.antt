-- Sums of f 0, f 1, .. f (n - 1), and how often numbers stand in lists: numbers below n, none of them twice, are at most n.
use Rattle.std.specs.Prelude.{◌≡◌, List, ℕ, zero, suc, ◌≤◌, ◌<◌, eqb, length}
use Rattle.std.proofs.Common.{arith, eqb-true}
use Rattle.laws.specs.Folds.{sum_below}
use Rattle.laws.specs.Cases.{cases}
use Rattle.laws.specs.Sums.{sum_zero, sum_add, sum_occurs}
use Rattle.table.specs.Take.{occurs}
use Rattle.table.specs.theory.Formed.{All, all_nil, all_cons}
use Rattle.table.specs.theory.FormedCalls.{Below}

-- ---- sums

-- rows and columns
pub sum_swap : (n m : ℕ) (f : ℕ → ℕ → ℕ) → sum_below n (λ j. sum_below m (λ i. f i j)) ≡ sum_below m (λ i. sum_below n (λ j. f i j))
sum_swap n zero f = sum_zero n
sum_swap n (suc m) f = omega (arith, sum_add n (λ j. f 0 j) (λ j. sum_below m (λ i. f (suc i) j)), sum_swap n m (λ i. f (suc i)))

pub sum_few : (n : ℕ) (f : ℕ → ℕ) → ((i : ℕ) → i < n → f i ≤ 1) → sum_below n f ≤ n
sum_few zero f h = omega arith
sum_few (suc n) f h = omega (arith, h 0 (omega arith), sum_few n (λ i. f (suc i)) (λ i l. h (suc i) (omega arith)))

-- ---- numbers that stand in lists

pub below_occurs : (n : ℕ) {xs : List ℕ} → All (Below n) xs → (j : ℕ) → 0 < occurs j xs → j < n
below_occurs n all_nil j h = absurd (omega arith)
below_occurs n (all_cons {x = x} p ps) j h =
    cases (eqb j x) (λ e. rw (eqb-true j x e) p) (λ e. below_occurs n ps j (let l = rw e at h in omega arith))

-- the numbers of a list, each counted
pub sum_below_lem : (n : ℕ) {xs : List ℕ} → All (Below n) xs → sum_below n (λ j. occurs j xs) ≡ length xs
sum_below_lem n {xs} b = sum_occurs n xs (below_occurs n b)

-- n numbers below n at most, where none stands twice
pub few_below : (n : ℕ) {xs : List ℕ} → All (Below n) xs → ((j : ℕ) → j < n → occurs j xs ≤ 1) → length xs ≤ n
few_below n {xs} b h = omega (arith, sum_below_lem n b, sum_few n (λ j. occurs j xs) h)
