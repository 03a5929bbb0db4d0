-- From `k` on the search finds what it finds from `at` on.
use Rattle.std.proofs.Common.{◌≡◌, Bool, ℕ}
use Rattle.byte_search.specs.First.{Says, first_from}
use Rattle.byte_search.proofs.first.Given as goal

abbrev pub invariant-loop-k : goal.invariant-loop-k
invariant-loop-k g l =
    (p : ℕ → Bool) → Says (goal.F-post g l.test) p → first_from p l.s l.k ≡ first_from p l.s l.at
