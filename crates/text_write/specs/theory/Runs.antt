-- The run of zero groups that "::" is written for is the longest, and the first of equals.
use Rattle.std.specs.Prelude.{◌≡◌, refl, Bool, true, false, cond, List, [], ◌∷◌, ℕ, zero, suc, ◌+◌, ◌≤◌, ◌<◌, length, take, drop, replicate, leb, eqb}
use Rattle.std.proofs.Common.{ap, not-suc-le-zero, add-one, arith, leb-true, leb-false, eqb-true}
use Rattle.std.proofs.Math.Seq.{drop-nil}
use Rattle.text_write.specs.Writing.{zeros, longest}

-- a run of zeros ends within the list
pub zeros_le : (l : List ℕ) → zeros l ≤ length l
unfolding zeros
zeros_le [] = omega arith
zeros_le (g ∷ l) = go (eqb g 0) (zeros_le l)
  where
    go : (b : Bool) → zeros l ≤ length l → cond b (zeros l + 1) 0 ≤ suc (length l)
    go true h = omega arith
    go false h = omega arith

-- the groups of a run of zeros are zero
pub zeros_take : (l : List ℕ) → take (zeros l) l ≡ replicate (zeros l) 0
unfolding zeros
zeros_take [] = refl
zeros_take (g ∷ l) = go (eqb g 0) refl (zeros_take l)
  where
    go : (b : Bool) → eqb g 0 ≡ b → take (zeros l) l ≡ replicate (zeros l) 0
        → take (cond b (zeros l + 1) 0) (g ∷ l) ≡ replicate (cond b (zeros l + 1) 0) 0
    go true e h = rw (add-one (zeros l), eqb-true g 0 e) (ap (λ (m : List ℕ). 0 ∷ m) h)
    go false e h = refl

-- at s begins a run of n zero groups of l, no run is longer, and none before it is as long
pub record Longest (l : List ℕ) (s n : ℕ) : Type 0 where
  pub run : zeros (drop s l) ≡ n
  pub most : (i : ℕ) → zeros (drop i l) ≤ n
  pub first : (i : ℕ) → i < s → zeros (drop i l) < n

zeros_nil : (i : ℕ) → zeros (drop i []) ≡ 0
zeros_nil i = rw (drop-nil {A = ℕ} i) (unfold zeros in refl)

-- the longest run is what its name says
pub longest_is : (l : List ℕ) → Longest l (longest l).0 (longest l).1
unfolding longest
longest_is [] = record {
  run = zeros_nil 0;
  most = λ i. omega (arith, zeros_nil i);
  first = λ i h. absurd (not-suc-le-zero h);
}
longest_is (g ∷ l) = go (leb (longest l).1 (zeros (g ∷ l))) refl (longest_is l)
  where
    at_each : (P : ℕ → Type 0) → P zero → ((i : ℕ) → P (suc i)) → (i : ℕ) → P i
    at_each P a b zero = a
    at_each P a b (suc i) = b i

    chosen : Bool → ℕ × ℕ
    chosen b = cond b (0, zeros (g ∷ l)) ((longest l).0 + 1, (longest l).1)

    go : (b : Bool) → leb (longest l).1 (zeros (g ∷ l)) ≡ b → Longest l (longest l).0 (longest l).1
        → Longest (g ∷ l) (chosen b).0 (chosen b).1
    go true e h = record {
      run = refl;
      most =
          at_each (λ i. zeros (drop i (g ∷ l)) ≤ zeros (g ∷ l)) (omega arith)
          (λ i. omega (arith, h.most i, leb-true (longest l).1 (zeros (g ∷ l)) e));
      first = λ i k. absurd (not-suc-le-zero k);
    }
    go false e h =
        let k = leb-false (longest l).1 (zeros (g ∷ l)) e in
        record {
          run = rw (add-one (longest l).0) h.run;
          most = at_each (λ i. zeros (drop i (g ∷ l)) ≤ (longest l).1) (omega arith) h.most;
          first = at_each (λ i. i < (longest l).0 + 1 → zeros (drop i (g ∷ l)) < (longest l).1) (λ j. k) (λ i j. h.first i (omega arith));
        }
