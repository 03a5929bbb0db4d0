-- What tests tell that run through a list: both ways.
use Rattle.std.specs.Prelude.{◌≡◌, refl, ◌≢◌, Bool, true, false, List, [], ◌∷◌, ℕ, zero, suc, ◌≤◌, ◌<◌, eqb, length, get_or, drop}
use Rattle.std.proofs.Common.{sym, true≢false, arith, eqb-true, eq-eqb, ne_eqb}
use Rattle.std.proofs.lemmas.Bool.{eqb-false}
use Rattle.laws.specs.Folds.{every, all_zero}
use Rattle.laws.specs.Cases.{cases, both_true, true_both, never}
use Rattle.settings.specs.declared.layout.Layout.{Layout}
use Rattle.table.specs.State.{entry_of}
use Rattle.table.specs.Take.{occurs}
use Rattle.table.specs.Check.{has_entry, no_entry_twice}

-- ---- a test of each number that stands in a list

pub every_at : (f : ℕ → Bool) (xs : List ℕ) (j : ℕ) → every f xs ≡ true → 0 < occurs j xs → f j ≡ true
every_at f [] j e h = absurd (omega arith)
every_at f (x ∷ xs) j e h =
    let b = both_true (f x) (every f xs) e in
    cases (eqb j x)
    (λ q. rw (eqb-true j x q) b.0)
    (λ q. every_at f xs j b.1 (let l = rw q at h in omega arith))

pub every_all : (f : ℕ → Bool) (xs : List ℕ) → ((j : ℕ) → 0 < occurs j xs → f j ≡ true) → every f xs ≡ true
every_all f [] h = refl
every_all f (x ∷ xs) h =
    true_both (h x (rw (eq-eqb x x refl) (omega arith))) (every_all f xs (λ j l. h j (omega arith)))

-- ---- zeros from place n on; past the end of a list stands 0

pub zeros_at : (xs : List ℕ) (n k : ℕ) → all_zero (drop n xs) ≡ true → n ≤ k → get_or xs k 0 ≡ 0
zeros_at [] n k e h = refl
zeros_at (x ∷ xs) zero zero e h = eqb-true x 0 (both_true (eqb x 0) (all_zero xs) e).0
zeros_at (x ∷ xs) zero (suc k) e h = zeros_at xs zero k (both_true (eqb x 0) (all_zero xs) e).1 (omega arith)
zeros_at (x ∷ xs) (suc n) zero e h = absurd (omega arith)
zeros_at (x ∷ xs) (suc n) (suc k) e h = zeros_at xs n k e (omega arith)

pub zeros_all : (xs : List ℕ) (n : ℕ) → ((k : ℕ) → n ≤ k → get_or xs k 0 ≡ 0) → all_zero (drop n xs) ≡ true
zeros_all [] zero h = refl
zeros_all [] (suc n) h = refl
zeros_all (x ∷ xs) zero h = true_both (eq-eqb x 0 (h 0 (omega arith))) (zeros_all xs zero (λ k l. h (suc k) (omega arith)))
zeros_all (x ∷ xs) (suc n) h = zeros_all xs n (λ k l. h (suc k) (omega arith))

-- ---- no entry twice

module _ (g : Layout) where
  pub has_at : (e : ℕ) (xs : List ℕ) (q : ℕ) → has_entry g e xs ≡ false → q < length xs → entry_of g (get_or xs q 0) ≢ e
  has_at e [] q t h = absurd (omega arith)
  has_at e (x ∷ xs) zero t h =
      cases (eqb (entry_of g x) e) (λ c. absurd (true≢false (rw c at t))) (λ c. eqb-false (entry_of g x) e c)
  has_at e (x ∷ xs) (suc q) t h =
      cases (eqb (entry_of g x) e) (λ c. absurd (true≢false (rw c at t))) (λ c. has_at e xs q (rw c at t) (omega arith))

  pub has_none : (e : ℕ) (xs : List ℕ) → ((q : ℕ) → q < length xs → entry_of g (get_or xs q 0) ≢ e) → has_entry g e xs ≡ false
  has_none e [] h = refl
  has_none e (x ∷ xs) h =
      rw (ne_eqb (entry_of g x) e (h 0 (omega arith))) (has_none e xs (λ q l. h (suc q) (omega arith)))

  pub single_at : (xs : List ℕ) (p q : ℕ) → no_entry_twice g xs ≡ true → p < q → q < length xs → entry_of g (get_or xs p 0) ≢ entry_of g (get_or xs q 0)
  single_at [] p q t h l = absurd (omega arith)
  single_at (x ∷ xs) p zero t h l = absurd (omega arith)
  single_at (x ∷ xs) zero (suc q) t h l =
      cases (has_entry g (entry_of g x) xs)
      (λ c. never (rw c at t))
      (λ c. λ d. has_at (entry_of g x) xs q c (omega arith) (sym d))
  single_at (x ∷ xs) (suc p) (suc q) t h l =
      cases (has_entry g (entry_of g x) xs)
      (λ c. never (rw c at t))
      (λ c. single_at xs p q (rw c at t) (omega arith) (omega arith))

  pub single_all : (xs : List ℕ)
      → ((p q : ℕ) → p < q → q < length xs → entry_of g (get_or xs p 0) ≢ entry_of g (get_or xs q 0)) → no_entry_twice g xs ≡ true
  single_all [] h = refl
  single_all (x ∷ xs) h =
      rw (has_none (entry_of g x) xs (λ q l d. h 0 (suc q) (omega arith) (omega arith) (sym d)))
      (single_all xs (λ p q l m. h (suc p) (suc q) (omega arith) (omega arith)))
