-- No slot from j on that stands before slot r has the window.
use Rattle.std.proofs.Common.{◌≡◌, ℕ, ◌+◌, ◌*◌, ◌≤◌, ◌<◌, false}
use Rattle.table_read.proofs.windows.first.Given as goal

abbrev pub invariant-loop-j : goal.invariant-loop-j
invariant-loop-j g l =
    (l.p ≡ l.at + l.j * l.step) × (l.j ≤ l.r) × (l.r ≤ l.n) × ((k : ℕ) → l.j ≤ k → k < l.r → goal.F-post g l.is_sought (l.at + k * l.step) false)
