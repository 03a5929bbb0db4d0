-- A byte of the run, tested by the ranges of such bytes.
use mathlib.Core.Path.{◌≡◌, sym, ap}
use mathlib.Core.Bool.{true, not, ◌||◌}
use Prim.Native.Nat.{ℕ, ◌+◌, ◌-◌, ◌<◌}
use native.Mathlib.Omega.{arith}
use lib.Dec.{eqb}
use borrow.Author.Tests.{ne_eqb}
use Rattle.laws.specs.Cases.{cases}
use Rattle.text_read.specs.Class.{class_of, other, within}
use Rattle.text_read.specs.theory.Bytes.{within_true}

-- a digit's class is not that of other bytes
digit_not : (lo hi from b : ℕ) → hi < from + 18 → within lo hi b ≡ true → true ≡ not (eqb (b - from) other)
digit_not lo hi from b h e = sym (ap not (ne_eqb (b - from) other (λ q. omega (arith, h, q, (within_true lo hi b e).1))))

pub tested : (b : ℕ) → within 48 57 b || within 65 70 b || within 97 102 b || eqb b 58 || eqb b 46 ≡ not (eqb (class_of b) other)
unfolding class_of
tested b =
    cases (within 48 57 b) (λ e. rw e (digit_not 48 57 48 b (omega arith) e))
    (λ e. rw e (cases (within 65 70 b) (λ e. rw e (digit_not 65 70 55 b (omega arith) e))
    (λ e. rw e (cases (within 97 102 b) (λ e. rw e (digit_not 97 102 87 b (omega arith) e))
    (λ e. rw e (cases (eqb b 58) (λ e. rw e)
    (λ e. rw e (cases (eqb b 46) (λ e. rw e) (λ e. rw e)))))))))
