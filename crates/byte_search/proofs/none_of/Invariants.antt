-- While the test was true of none of them, the search can pass the bytes so far.
use Rattle.std.proofs.Common.{◌≡◌, true, Bool, ℕ, ◌+◌}
use Rattle.byte_search.specs.First.{Says, first_from}
use Rattle.byte_search.proofs.none_of.Given as goal

abbrev pub invariant-loop-k : goal.invariant-loop-k
invariant-loop-k g l =
    l.none ≡ true → (p : ℕ → Bool) → Says (goal.F-post g l.test) p → first_from p l.s l.i ≡ first_from p l.s (l.i + l.k)
