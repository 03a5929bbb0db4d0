-- The run that a text begins with is the longest.
use Rattle.std.specs.Prelude.{◌≡◌, refl, false, List, [], ◌∷◌, ◌++◌, ℕ, zero, suc, ◌≤◌, length, take, eqb}
use Rattle.std.proofs.Common.{sym, ap, arith, eq-eqb}
use Rattle.laws.specs.Cases.{cases, never}
use Rattle.text_read.specs.Class.{class_of, other}
use Rattle.text_read.specs.theory.Bytes.{Kind, digit, separator, another, a_colon, a_dot, kind}
use Rattle.text_read.specs.theory.Splits.{Without}
use Rattle.text_read.proofs.Spaces.{digit_known, separator_known}
use Rattle.text_run.specs.Run.{run}
use Rattle.text_run.specs.Claim as claim
use Rattle.text_run.specs.Claim.{RunByte, Runs, Longest}

-- the text ends, or goes on with a byte that is no digit, colon or dot
abbrev pub Stops : List ℕ → Type 0
Stops [] = Unit {0}
Stops (x ∷ s) = class_of x ≡ other

-- a text of such bytes alone is the run, whatever stops it
pub run_stops : (s t : List ℕ) → Without other s → Stops t → run (s ++ t) ≡ s
unfolding run
run_stops [] [] w e = refl
run_stops [] (x ∷ t) w e = rw (eq-eqb (class_of x) other e)
run_stops (x ∷ s) t w e = rw (w.0, run_stops s t w.1 e)

-- it is what stands before its end
pub run_take : (s : List ℕ) → take (length (run s)) s ≡ run s
unfolding run
run_take [] = refl
run_take (x ∷ s) = cases (eqb (class_of x) other) (λ e. rw e) (λ e. rw e (ap (λ (l : List ℕ). x ∷ l) (run_take s)))

-- the run of a text's beginning is the beginning of its run
pub run_front : (n : ℕ) (s : List ℕ) → run (take n s) ≡ take n (run s)
unfolding run
run_front zero s = refl
run_front (suc n) [] = refl
run_front (suc n) (x ∷ s) = cases (eqb (class_of x) other) (λ e. rw e) (λ e. rw e (ap (λ (l : List ℕ). x ∷ l) (run_front n s)))

-- a byte of a run, by its class and by itself
run_byte : {x k : ℕ} → Kind x k → eqb k other ≡ false → RunByte x
run_byte (digit d) e = claim.digit d
run_byte (separator a_colon) e = claim.a_colon
run_byte (separator a_dot) e = claim.a_dot
run_byte another e = never (sym e)

byte_known : {x : ℕ} → RunByte x → eqb (class_of x) other ≡ false
byte_known (claim.digit d) = digit_known d
byte_known claim.a_colon = separator_known a_colon
byte_known claim.a_dot = separator_known a_dot

-- all its bytes are such
run_runs : (s : List ℕ) → Runs (run s)
unfolding run
run_runs [] = tt
run_runs (x ∷ s) = cases (eqb (class_of x) other) (λ e. rw e tt) (λ e. rw e (run_byte (kind x) e, run_runs s))

-- and no longer beginning of the text has such bytes alone
run_most : (n : ℕ) (s : List ℕ) → n ≤ length s → Runs (take n s) → n ≤ length (run s)
unfolding run
run_most zero s h r = omega arith
run_most (suc n) [] h r = h
run_most (suc n) (x ∷ s) h r = rw (byte_known r.0) (omega (arith, run_most n s (omega arith) r.1))

pub run_longest : (s : List ℕ) → Longest s (run s)
run_longest s = record { begins = run_take s; runs = run_runs s; longest = λ n. run_most n s }
