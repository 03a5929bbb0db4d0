-- The laws of where a byte stands, and where a line ends.
use Rattle.std.specs.Prelude.{◌≡◌, List, [], ◌∷◌, Bool, true, not, ◌&&◌, ℕ, ◌+◌, ◌≤◌, ◌<◌, cond, refl, suc, length, get_or, drop, eqb, ltb, Some, None}
use Rattle.std.proofs.Math.Bool.{and-eq-true_iff}
use Rattle.std.proofs.Common.{ap, arith, length-drop, drop_of_length-le, drop-cons, lit≤, eq-eqb, ne_eqb, lt-ltb, le-ltb, ltb-true, ltb-false}
use Rattle.std.proofs.lemmas.Bool.{eqb-false, not-true}
use Rattle.laws.specs.Cases.{cases}
use Rattle.laws.specs.Lists.{drop_next}
use Rattle.program_lines.specs.Ends.{before, first_from, line_feed, span_at}
use Rattle.byte_search.specs.First as search

-- ---- a byte that is b, one that is not, and past the end

module _ (b : ℕ) (s : List ℕ) (i : ℕ) where
  pub hit : i < length s → get_or s i 0 ≡ b → first_from b s i ≡ i
  unfolding before first_from
  hit h e = rw (drop-cons s i 0 h) (simp (eq-eqb (get_or s i 0) b e) (omega arith))

  pub miss : i < length s → (get_or s i 0 ≡ b → ⊥) → first_from b s i ≡ first_from b s (i + 1)
  unfolding before first_from
  miss h n = rw (drop_next s i 0 h) (simp (ne_eqb (get_or s i 0) b n) (omega arith))

  pub over : length s ≤ i → first_from b s i ≡ i
  unfolding before first_from
  over h = rw (drop_of_length-le s h) (omega arith)

-- ---- many bytes at once

-- if the test t is true, b is none of the n bytes from i on
abbrev pub Skips : ℕ → List ℕ → ℕ → ℕ → Bool → Type 0
Skips b s n i t = t ≡ true → first_from b s i ≡ first_from b s (i + n)

pub skips_one : (b : ℕ) (s : List ℕ) (i : ℕ) → i < length s → Skips b s 1 i (not (eqb (get_or s i 0) b))
skips_one b s i h e = miss b s i h (eqb-false _ _ (not-true _ e))

-- four runs of n bytes, each where the one before it ends, and each with its test
pub skips_four : (b : ℕ) (s : List ℕ) (n i : ℕ) {j k l m : ℕ} (t u v w : Bool) → j ≡ i + n → k ≡ j + n → l ≡ k + n → m ≡ l + n
    → Skips b s n i t → Skips b s n j u → Skips b s n k v → Skips b s n l w
    → t && u && v && w ≡ true → first_from b s i ≡ first_from b s m
skips_four b s n i t u v w ej ek el em f g h q e =
    let x = (and-eq-true_iff (t && u && v) w).0 e in
    let y = (and-eq-true_iff (t && u) v).0 x.0 in
    let z = (and-eq-true_iff t u).0 y.0 in
    cc (f z.0, g z.1, h y.1, q x.1)

-- ---- the search for any test, at the test for b

pub before_same : (b : ℕ) (s : List ℕ) → search.before (λ x. eqb x b) s ≡ before b s
unfolding before search.before
before_same b [] = refl
before_same b (x ∷ s) = ap (λ (n : ℕ). cond (eqb x b) 0 (suc n)) (before_same b s)

pub first_same : (b : ℕ) (s : List ℕ) (at : ℕ) → search.first_from (λ x. eqb x b) s at ≡ first_from b s at
unfolding first_from search.first_from
first_same b s at = ap (λ (n : ℕ). at + n) (before_same b (drop at s))

-- ---- bounds

pub before_le : (b : ℕ) (s : List ℕ) → before b s ≤ length s
unfolding before
before_le b [] = lit≤ tt
before_le b (x ∷ s) = cases (eqb x b) (λ t. simp t (omega arith)) (λ t. simp t (omega (arith, before_le b s)))

pub first_after : (b : ℕ) (s : List ℕ) (at : ℕ) → at ≤ first_from b s at
unfolding first_from
first_after b s at = omega arith

pub first_le : (b : ℕ) (s : List ℕ) (at : ℕ) → at ≤ length s → first_from b s at ≤ length s
unfolding first_from
first_le b s at h = omega (arith, before_le b (drop at s), length-drop at s)

-- ---- what stands at a position, by the place of the first line feed

module _ (s : List ℕ) (at e : ℕ) (f : e ≡ first_from line_feed s at) where
  pub line_span : e < length s → Some e ≡ span_at s at
  unfolding span_at
  line_span h = rw (← f) (simp (lt-ltb e (length s) h))

  pub rest_span : length s ≤ e → None ≡ span_at s at
  unfolding span_at
  rest_span h = rw (← f) (simp (le-ltb e (length s) h))

-- ---- what each answer says

pub span_line : (s : List ℕ) (at e : ℕ) → span_at s at ≡ Some e → (e ≡ first_from line_feed s at) × (first_from line_feed s at < length s)
unfolding span_at
span_line s at e h =
    cases (ltb (first_from line_feed s at) (length s))
    (λ t. let k : Some (first_from line_feed s at) ≡ Some e = simp t at h in (cc, ltb-true _ _ t))
    (λ t. let k : None ≡ Some e = simp t at h in let z : ◌≡◌ {A = ℕ} 0 1 = cc in absurd (omega arith))

pub span_rest : (s : List ℕ) (at : ℕ) → span_at s at ≡ None → length s ≤ first_from line_feed s at
unfolding span_at
span_rest s at h =
    cases (ltb (first_from line_feed s at) (length s))
    (λ t. let k : Some (first_from line_feed s at) ≡ None = simp t at h in let z : ◌≡◌ {A = ℕ} 0 1 = cc in absurd (omega arith))
    (λ t. ltb-false _ _ t)
