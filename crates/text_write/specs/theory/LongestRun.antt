-- The run of zero groups that is written as "::": it is the longest, the first of equals, and has at least two groups.
use Rattle.std.specs.Prelude.{◌≡◌, refl, false, List, [], ◌∷◌, ◌++◌, ◌⊎◌, ℕ, zero, suc, ◌+◌, ◌≤◌, ◌<◌, leb, ltb, eqb, length, take, drop, get_or}
use Rattle.std.proofs.Common.{inl, inr, arith, le-leb, leb-true, leb-false, ltb-true, ltb-false, eqb-true, eq-eqb}
use Rattle.std.proofs.lemmas.Bool.{lt-leb}
use Rattle.laws.specs.Cases.{cases}
use Rattle.text_write.specs.Writing.{part_text, zeros, longest, text_of}
use Rattle.text_write.specs.theory.Texts.{text_plain, text_gap}

-- n zero groups stand from place i on
pub record Run (l : List ℕ) (i n : ℕ) : Type 0 where
  pub within : i + n ≤ length l
  pub zero_at : (j : ℕ) → i ≤ j → j < i + n → get_or l j 0 ≡ 0

run_none : {l : List ℕ} → Run l 0 0
run_none = record { within = omega arith; zero_at = λ j p q. absurd (let z : ⊥ = omega arith in z) }

-- one group more in front
run_tail : {g : ℕ} {l : List ℕ} {i n : ℕ} → Run (g ∷ l) (suc i) n → Run l i n
run_tail r = record { within = omega (arith, r.within); zero_at = λ j p q. r.zero_at (suc j) (omega arith) (omega arith) }

run_later : {g : ℕ} {l : List ℕ} {i n : ℕ} → Run l i n → Run (g ∷ l) (i + 1) n
run_later {g} {l} {i} {n} r = record { within = omega (arith, r.within); zero_at = at }
  where
    at : (j : ℕ) → i + 1 ≤ j → j < i + 1 + n → get_or (g ∷ l) j 0 ≡ 0
    at zero p q = absurd (let z : ⊥ = omega arith in z)
    at (suc j) p q = r.zero_at j (omega arith) (omega arith)

run_longer : {g : ℕ} {l : List ℕ} {n : ℕ} → g ≡ 0 → Run l 0 n → Run (g ∷ l) 0 (n + 1)
run_longer {g} {l} {n} e r = record { within = omega (arith, r.within); zero_at = at }
  where
    at : (j : ℕ) → 0 ≤ j → j < 0 + (n + 1) → get_or (g ∷ l) j 0 ≡ 0
    at zero p q = e
    at (suc j) p q = r.zero_at j (omega arith) (omega arith)

-- The run at the start --------------------------------------------------------------------------------------------------

pub zeros_nil : zeros [] ≡ 0
unfolding zeros
zeros_nil = refl

pub zeros_more : (g : ℕ) (l : List ℕ) → g ≡ 0 → zeros (g ∷ l) ≡ zeros l + 1
unfolding zeros
zeros_more g l e = rw (eq-eqb g 0 e)

pub zeros_none : (g : ℕ) (l : List ℕ) → eqb g 0 ≡ false → zeros (g ∷ l) ≡ 0
unfolding zeros
zeros_none g l e = rw e

pub zeros_run : (l : List ℕ) → Run l 0 (zeros l)
zeros_run [] = rw zeros_nil run_none
zeros_run (g ∷ l) =
    cases (eqb g 0)
    (λ t. let e = eqb-true g 0 t in rw (zeros_more g l e) (run_longer e (zeros_run l)))
    (λ t. rw (zeros_none g l t) run_none)

pub zeros_most : (l : List ℕ) (n : ℕ) → Run l 0 n → n ≤ zeros l
zeros_most l zero r = omega arith
zeros_most [] (suc n) r = absurd (let z : ⊥ = omega (arith, r.within) in z)
zeros_most (g ∷ l) (suc n) r =
    let tail : Run l 0 n =
    record { within = omega (arith, r.within); zero_at = λ j p q. r.zero_at (suc j) (omega arith) (omega arith) }
    in
    rw (zeros_more g l (r.zero_at 0 (omega arith) (omega arith))) (omega (arith, zeros_most l n tail))

-- The longest run -------------------------------------------------------------------------------------------------------

pub longest_nil : longest [] ≡ (0, 0)
unfolding longest
longest_nil = refl

pub here : (x : ℕ) (l : List ℕ) → (longest l).1 ≤ zeros (x ∷ l) → longest (x ∷ l) ≡ (0, zeros (x ∷ l))
unfolding longest
here x l k = simp (le-leb _ _ k)

pub there : (x : ℕ) (l : List ℕ) → zeros (x ∷ l) < (longest l).1 → longest (x ∷ l) ≡ ((longest l).0 + 1, (longest l).1)
unfolding longest
there x l k = simp (lt-leb _ _ k)

pub by_longest : {A : Type 0} (x : ℕ) (l : List ℕ) → ((longest l).1 ≤ zeros (x ∷ l) → A) → (zeros (x ∷ l) < (longest l).1 → A) → A
by_longest x l f g =
    cases (leb (longest l).1 (zeros (x ∷ l))) (λ e. f (leb-true _ _ e)) (λ e. g (leb-false _ _ e))

-- it is a run of zero groups
pub longest_run : (l : List ℕ) → Run l (longest l).0 (longest l).1
longest_run [] = rw longest_nil run_none
longest_run (x ∷ l) =
    by_longest x l (λ k. rw (here x l k) (zeros_run (x ∷ l))) (λ k. rw (there x l k) (run_later (longest_run l)))

-- no run of zero groups is longer
pub longest_longest : (l : List ℕ) (i n : ℕ) → Run l i n → n ≤ (longest l).1
longest_longest [] i n r = omega (arith, r.within)
longest_longest (x ∷ l) zero n r =
    let m = zeros_most (x ∷ l) n r in
    by_longest x l (λ k. rw (here x l k) m) (λ k. rw (there x l k) (omega arith))
longest_longest (x ∷ l) (suc i) n r =
    let m = longest_longest l i n (run_tail r) in
    by_longest x l (λ k. rw (here x l k) (omega arith)) (λ k. rw (there x l k) m)

-- and of the runs that are as long it is the first
pub longest_first : (l : List ℕ) (i n : ℕ) → Run l i n → (longest l).1 ≤ n → (longest l).0 ≤ i
longest_first [] i n r = rw longest_nil (λ e. omega arith)
longest_first (x ∷ l) zero n r =
    let m = zeros_most (x ∷ l) n r in
    by_longest x l (λ k. rw (here x l k) (λ e. omega arith)) (λ k. rw (there x l k) (λ e. absurd (let z : ⊥ = omega arith in z)))
longest_first (x ∷ l) (suc i) n r =
    by_longest x l (λ k. rw (here x l k) (λ e. omega arith))
    (λ k. rw (there x l k) (λ e. omega (arith, longest_first l i n (run_tail r) e)))

-- 4.2.2: where "::" is written it stands for a run of at least two groups, whole; where not, every group is written
pub gap_stands_for_two : (l : List ℕ)
    → (text_of l ≡ part_text l)
    ⊎ ((2 ≤ (longest l).1) × (text_of l ≡ part_text (take (longest l).0 l) ++ 58 ∷ 58 ∷ part_text (drop ((longest l).0 + (longest l).1) l)))
gap_stands_for_two l =
    cases (ltb (longest l).1 2) (λ e. inl (text_plain l (ltb-true _ _ e)))
    (λ e. let h : 2 ≤ (longest l).1 = ltb-false _ _ e in inr (h, text_gap l h))
