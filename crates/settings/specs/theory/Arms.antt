-- What is left of the numbers behind the arms of a match.
use Rattle.std.specs.Prelude.{ℕ, zero, suc, ◌≤◌, ◌≢◌}
use Rattle.std.proofs.Common.{sym, zero-le}
use Rattle.std.proofs.Math.Arith.{lt_of_le-ne}

-- a number that is none of those below k, one after the other, is at least k
abbrev pub NoneOf : ℕ → ℕ → Type 0
NoneOf zero n = Unit
NoneOf (suc k) n = NoneOf k n × (n ≢ k)

pub at_least : (k n : ℕ) → NoneOf k n → k ≤ n
at_least zero n h = zero-le
at_least (suc k) n h = lt_of_le-ne (at_least k n h.0) (λ e. h.1 (sym e))
