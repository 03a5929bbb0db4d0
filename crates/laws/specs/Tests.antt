-- Tests of numbers that stand or fall together, and tests of every number below a bound.
use Rattle.std.specs.Prelude.{◌≡◌, refl, Bool, true, false, ℕ, zero, suc, ◌<◌, eqb, ltb}
use Rattle.std.proofs.Common.{sym, ◌∙◌, arith, eqb-true, eq-eqb, ltb-true, lt-ltb}
use Rattle.laws.specs.Folds.{every_below}
use Rattle.laws.specs.Cases.{cases, never, both_true, true_both, iff}

-- two tests with the same meaning have the same answer
pub eqb_iff : (a b c d : ℕ) → (a ≡ b → c ≡ d) → (c ≡ d → a ≡ b) → eqb a b ≡ eqb c d
eqb_iff a b c d f g = iff (eqb a b) (eqb c d) (λ e. eq-eqb c d (f (eqb-true a b e))) (λ e. eq-eqb a b (g (eqb-true c d e)))

pub ltb_iff : (a b c d : ℕ) → (a < b → c < d) → (c < d → a < b) → ltb a b ≡ ltb c d
ltb_iff a b c d f g = iff (ltb a b) (ltb c d) (λ e. lt-ltb c d (f (ltb-true a b e))) (λ e. lt-ltb a b (g (ltb-true c d e)))

-- what the test of every number below n tells of one, and what it asks of each
pub below_at : (n : ℕ) (f : ℕ → Bool) → every_below n f ≡ true → (j : ℕ) → j < n → f j ≡ true
below_at zero f e j h = absurd (omega arith)
below_at (suc n) f e zero h = (both_true (f 0) (every_below n (λ i. f (suc i))) e).0
below_at (suc n) f e (suc j) h = below_at n (λ i. f (suc i)) (both_true (f 0) (every_below n (λ i. f (suc i))) e).1 j (omega arith)

pub below_all : (n : ℕ) (f : ℕ → Bool) → ((j : ℕ) → j < n → f j ≡ true) → every_below n f ≡ true
below_all zero f h = refl
below_all (suc n) f h = true_both (h 0 (omega arith)) (below_all n (λ i. f (suc i)) (λ j l. h (suc j) (omega arith)))

-- one that fails is enough
pub below_not : (n : ℕ) (f : ℕ → Bool) (j : ℕ) → j < n → f j ≡ false → every_below n f ≡ false
below_not n f j h e = cases (every_below n f) (λ p. never (sym e ∙ below_at n f p j h)) (λ p. p)
