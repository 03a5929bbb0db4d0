-- From `i` on the search finds what it finds from `at` on, and a step of N stays in the slice. What is left of the slice is the measure.
use Rattle.std.proofs.Common.{◌≡◌, Bool, ℕ, ◌≤◌, ◌-◌, length}
use Rattle.byte_search.specs.First.{Says, first_from}
use Rattle.byte_search.proofs.skip.Given as goal

abbrev pub invariant-loop-i : goal.invariant-loop-i
invariant-loop-i g l =
    (l.i ≤ length l.s) × ((p : ℕ → Bool) → Says (goal.F-post g l.test) p → first_from p l.s l.i ≡ first_from p l.s l.at)

abbrev pub decreases-loop-i : goal.decreases-loop-i
decreases-loop-i g l = length l.s - l.i
