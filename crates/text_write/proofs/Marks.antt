-- Runs of zero groups as bits of a number: where a run of n begins, and one place on too, a run of n + 1 begins. The lowest bit that is
-- left, once no longer run is found, is where the longest run begins.
use mathlib.Core.Path.{◌≡◌, refl, sym, ap, ap₂, ◌∙◌}
use mathlib.Core.Bool.{cond}
use mathlib.Core.List.{List, [], ◌∷◌}
use Prim.Native.Nat.{ℕ, zero, suc, ◌+◌, ◌*◌, ◌/◌, ◌%◌, ◌^◌, ◌≤◌, ◌<◌, min}
use native.Mathlib.Nat.{pow-suc, min-zero, zero-min}
use native.Mathlib.Numerals.{add-one}
use native.Mathlib.Omega.{arith}
use lib.Bits.{bit_and, and_step}
use lib.Count.{count_trailing_zeros}
use lib.Dec.{leb, eqb}
use lib.ListN.{length, drop, get_or}
use borrow.Author.Tests.{le-leb, lt-leb, leb-true, leb-false, eqb-true}
use Rattle.std.specs.Int.{from_bool}
use Rattle.laws.specs.Cases.{cases}
use Rattle.laws.specs.Lists.{drop_next}
use Rattle.text_write.specs.Writing.{zeros, longest}
use Rattle.text_write.specs.WriterSteps.{run_marks}
use Rattle.text_write.specs.theory.LongestRun.{zeros_nil, zeros_more, zeros_none, zeros_run, longest_nil, here, there, by_longest}

-- the bit of the first place
abbrev mark : ℕ → List ℕ → ℕ
mark n l = cond (leb n (zeros l)) 1 0

module _ (n : ℕ) (l : List ℕ) where
  by_mark : {A : Type 0} → (n ≤ zeros l → A) → (zeros l < n → A) → A
  by_mark f g = cases (leb n (zeros l)) (λ e. f (leb-true _ _ e)) (λ e. g (leb-false _ _ e))

  mark_set : n ≤ zeros l → mark n l ≡ 1
  mark_set h = rw (le-leb _ _ h)

  mark_clear : zeros l < n → mark n l ≡ 0
  mark_clear h = rw (lt-leb _ _ h)

  mark_le : mark n l ≤ 1
  mark_le = by_mark (λ h. rw (mark_set h) (omega arith)) (λ h. rw (mark_clear h) (omega arith))

marks_nil : (n : ℕ) → run_marks n [] ≡ 0
unfolding run_marks
marks_nil n = refl

marks_cons : (n g : ℕ) (l : List ℕ) → run_marks n (g ∷ l) ≡ run_marks n l * 2 + mark n (g ∷ l)
unfolding run_marks
marks_cons n g l = refl

pub marks_lt : (n : ℕ) (l : List ℕ) → run_marks n l < 2 ^ length l
marks_lt n [] = rw (marks_nil n) (omega arith)
marks_lt n (g ∷ l) = rw (marks_cons n g l, pow-suc) (omega (arith, marks_lt n l, mark_le n (g ∷ l)))

-- a run does not reach past the end
pub marks_none : (n : ℕ) (l : List ℕ) → length l < n → run_marks n l ≡ 0
marks_none n [] h = marks_nil n
marks_none n (g ∷ l) h =
    let z : zeros (g ∷ l) < n = omega (arith, (zeros_run (g ∷ l)).within) in
    rw (marks_cons n g l, marks_none n l (omega arith), mark_clear n (g ∷ l) z)

-- the first place in the lowest bit, the others above it
marks_half : (n g : ℕ) (l : List ℕ) → (run_marks n (g ∷ l) / 2 ≡ run_marks n l) × (run_marks n (g ∷ l) % 2 ≡ mark n (g ∷ l))
marks_half n g l =
    let b = mark_le n (g ∷ l) in
    rw (marks_cons n g l) (omega arith, omega arith)

marks_odd : (n : ℕ) (l : List ℕ) → 1 ≤ n → run_marks n l % 2 ≡ mark n l
marks_odd n [] h = rw (marks_nil n) (sym (mark_clear n [] (rw zeros_nil h)))
marks_odd n (g ∷ l) h = (marks_half n g l).1

-- a longer run begins where one begins and, a place on, another
mark_both : (n g : ℕ) (l : List ℕ) → 1 ≤ n → min (mark n (g ∷ l)) (mark n l) ≡ mark (n + 1) (g ∷ l)
mark_both n g l h =
    cases (eqb g 0)
    (λ t.
    let e = zeros_more g l (eqb-true g 0 t) in
    by_mark n l
    (λ k. rw (mark_set n l k, mark_set n (g ∷ l) (rw e (omega arith)), mark_set (n + 1) (g ∷ l) (rw e (omega arith))))
    (λ k. rw (mark_clear n l k, mark_clear (n + 1) (g ∷ l) (rw e (omega arith))) (min-zero _)))
    (λ t.
    let e = zeros_none g l t in
    rw (mark_clear n (g ∷ l) (rw e h), mark_clear (n + 1) (g ∷ l) (rw e (omega arith))) (zero-min _))

pub marks_next : (n : ℕ) (l : List ℕ) → 1 ≤ n → bit_and (run_marks n l) (run_marks n l / 2) ≡ run_marks (n + 1) l
marks_next n [] h = rw (marks_nil n, marks_nil (n + 1))
marks_next n (g ∷ l) h =
    let a = run_marks n (g ∷ l) in
    let half = (marks_half n g l).0 in
    let odd = (marks_half n g l).1 in
    and_step a (a / 2)
    ∙ ap (λ (x : ℕ). bit_and x (x / 2) * 2 + min (a % 2) (x % 2)) half
    ∙ ap₂ (λ (x y : ℕ). x * 2 + min (a % 2) y) (marks_next n l h) (marks_odd n l h)
    ∙ ap (λ (x : ℕ). run_marks (n + 1) l * 2 + min x (mark n l)) odd
    ∙ ap (λ (x : ℕ). run_marks (n + 1) l * 2 + x) (mark_both n g l h)
    ∙ sym (marks_cons (n + 1) g l)

-- what it means that no place is left
clear_cons : (n g : ℕ) (l : List ℕ) → run_marks n (g ∷ l) ≡ 0 → (run_marks n l ≡ 0) × (zeros (g ∷ l) < n)
clear_cons n g l e =
    let c = marks_cons n g l in
    (omega arith, by_mark n (g ∷ l) (λ k. absurd (let m = mark_set n (g ∷ l) k in let z : ⊥ = omega arith in z)) (λ k. k))

pub marks_clear : (n : ℕ) (l : List ℕ) → run_marks (n + 1) l ≡ 0 → (longest l).1 ≤ n
marks_clear n [] e = rw longest_nil (omega arith)
marks_clear n (g ∷ l) e =
    let c = clear_cons (n + 1) g l e in
    by_longest g l (λ k. rw (here g l k) (omega arith)) (λ k. rw (there g l k) (marks_clear n l c.0))

-- the lowest bit that is left is the longest run's
pub marks_found : (k n : ℕ) (l : List ℕ) → length l ≤ k → 1 ≤ n → run_marks (n + 1) l ≡ 0 → 0 < run_marks n l
    → longest l ≡ (count_trailing_zeros k (run_marks n l), n)
unfolding count_trailing_zeros
marks_found k n [] h o e p = absurd (let m = marks_nil n in let z : ⊥ = omega arith in z)
marks_found zero n (g ∷ l) h o e p = absurd (let z : ⊥ = omega arith in z)
marks_found (suc k) n (g ∷ l) h o e p =
    let c = clear_cons (n + 1) g l e in
    let half = (marks_half n g l).0 in
    let odd = (marks_half n g l).1 in
    by_mark n (g ∷ l)
    (λ w.
    let q : zeros (g ∷ l) ≡ n = omega arith in
    let m : (longest l).1 ≤ zeros (g ∷ l) = omega (arith, marks_clear n l c.0) in
    rw (here g l m, odd, mark_set n (g ∷ l) w, q))
    (λ w.
    let m = mark_clear n (g ∷ l) w in
    let r : 0 < run_marks n l = omega (arith, marks_cons n g l) in
    let i = marks_found k n l (omega arith) o c.0 r in
    let v : zeros (g ∷ l) < (longest l).1 = rw i w in
    rw (there g l v, odd, m, half, i, add-one))

-- one place more in front
pub marks_step : (g : List ℕ) (i j : ℕ) → j ≡ i + 1 → i < length g
    → run_marks 1 (drop i g) ≡ run_marks 1 (drop j g) * 2 + from_bool (eqb (get_or g i 0) 0)
marks_step g i j e h =
    let d : drop i g ≡ get_or g i 0 ∷ drop j g = drop_next g i 0 h ∙ rw e in
    rw (d, marks_cons 1 (get_or g i 0) (drop j g))
    (ap (λ (x : ℕ). run_marks 1 (drop j g) * 2 + x)
    (cases (eqb (get_or g i 0) 0)
    (λ t. rw (t, mark_set 1 (get_or g i 0 ∷ drop j g) (rw (zeros_more (get_or g i 0) (drop j g) (eqb-true (get_or g i 0) 0 t)) (omega arith))))
    (λ t. rw (t, mark_clear 1 (get_or g i 0 ∷ drop j g) (rw (zeros_none (get_or g i 0) (drop j g) t) (omega arith))))))
