-- Where the run ends, seen from a place within it; and the bytes that are looked at.
use Rattle.std.specs.Prelude.{Result}
use Rattle.keys.specs.declared.Key.{Key}
use Rattle.settings.specs.declared.refusal.Refusal.{Refusal}
use mathlib.Core.Path.{◌≡◌, refl, sym, ap, ◌∙◌}
use mathlib.Core.List.{List, [], ◌∷◌}
use Prim.Native.Nat.{ℕ, suc, ◌+◌, ◌≤◌, min}
use native.Mathlib.Omega.{arith}
use native.Mathlib.Nat.{min-eq_left, min-eq_right, le_of_lt}
use lib.ListN.{length, take, drop}
use lib.Dec.{eqb, leb, lit≤}
use lib.Seq.{take_all, take-length}
use borrow.Author.Tests.{leb-true, leb-false}
use Rattle.laws.specs.Cases.{cases}
use Rattle.byte_search.specs.First.{before, first_from}
use Rattle.text_read.specs.Class.{class_of, other}
use Rattle.text_read.specs.Answers.{reading_of}
use Rattle.text_run.specs.Run.{run}
use Rattle.text_run.specs.Answers.{taking, taken_of}
use Rattle.text_run.specs.Steps.{run_end}
use Rattle.text_run.specs.theory.Run.{run_take}

-- the search for the first byte that the run does not have finds its end
before_run : (s : List ℕ) → before (λ x. eqb (class_of x) other) s ≡ length (run s)
unfolding before run
before_run [] = refl
before_run (x ∷ s) = cases (eqb (class_of x) other) (λ t. rw t refl) (λ t. rw t (ap suc (before_run s)))

pub first_run : (s : List ℕ) (i : ℕ) → first_from (λ x. eqb (class_of x) other) s i ≡ run_end s i
unfolding first_from run_end
first_run s i = ap (λ (n : ℕ). i + n) (before_run (drop i s))

pub run_start : (s : List ℕ) → run_end s 0 ≡ length (run s)
unfolding run_end
run_start s = omega arith

pub run_le : (s : List ℕ) → length (run s) ≤ length s
unfolding run
run_le [] = lit≤ tt
run_le (x ∷ s) = cases (eqb (class_of x) other) (λ t. simp t (omega arith)) (λ t. simp t (omega (arith, run_le s)))

-- the first 46 bytes of a text, or all if there are no more
pub front_take : (s : List ℕ) (n : ℕ) → n ≡ min 46 (length s) → take n s ≡ take 46 s
front_take s n e =
    cases (leb (length s) 46)
    (λ t. let h = leb-true (length s) 46 t in rw (e, min-eq_right h, take-length s, take_all 46 s h))
    (λ t. rw (e, min-eq_left (le_of_lt (leb-false (length s) 46 t))))

-- what is read of the bytes before the run's end is the answer
pub taken_is : (s : List ℕ) (n : ℕ) (p : Result Key Refusal) → n ≡ length (run s) → p ≡ reading_of (take n s) → taking n p ≡ taken_of s
unfolding taken_of
taken_is s n p e r = rw (r, e, run_take s)
