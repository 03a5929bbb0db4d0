-- Counting block numbers: if each number below n stands exactly once, in the lists B or in the chain fs, then n numbers stand there.
use Rattle.std.specs.Prelude.{◌≡◌, List, [], ◌∷◌, ℕ, ◌+◌, ◌<◌, length, ltb}
use Rattle.std.proofs.Common.{ap, ◌∙◌, arith, lt-ltb, ltb-true}
use Rattle.laws.specs.Folds.{sum_below}
use Rattle.laws.specs.Cases.{cases}
use Rattle.laws.specs.Sums.{sum_occurs, sum_ext, sum_add, sum_zero, sum_one}
use Rattle.table.specs.Take.{occurs}
use Rattle.plain_set.specs.theory.Count.{one, sum}

-- where 1 is left for a number below n only, the number is below n
pub below : (j n : ℕ) → 0 < one (ltb j n) → j < n
below j n l = cases (ltb j n) (λ e. ltb-true j n e) (λ e. absurd (omega (arith, ap one e)))

sum_below_occurs_all : (n : ℕ) (B : List (List ℕ)) → ((j : ℕ) → 0 < sum (occurs j) B → j < n)
    → sum_below n (λ j. sum (occurs j) B) ≡ sum length B
sum_below_occurs_all n [] h = sum_zero n
sum_below_occurs_all n (bs ∷ B) h =
    omega (
      arith,
      sum_add n (λ j. occurs j bs) (λ j. sum (occurs j) B),
      sum_occurs n bs (λ j l. h j (omega arith)),
      sum_below_occurs_all n B (λ j l. h j (omega arith)),
    )

-- the blocks in lists and the blocks in the chain make n
pub blocks_total : (n : ℕ) (B : List (List ℕ)) (fs : List ℕ) → ((j : ℕ) → sum (occurs j) B + occurs j fs ≡ one (ltb j n))
    → sum length B + length fs ≡ n
blocks_total n B fs h =
    omega (
      arith,
      sum_below_occurs_all n B (λ j l. below j n (omega (arith, h j))),
      sum_occurs n fs (λ j l. below j n (omega (arith, h j))),
      sum_add n (λ j. sum (occurs j) B) (λ j. occurs j fs),
      sum_ext n (λ j. sum (occurs j) B + occurs j fs) (λ j. 1) (λ j l. h j ∙ ap one (lt-ltb j n l)),
      sum_one n,
    )
