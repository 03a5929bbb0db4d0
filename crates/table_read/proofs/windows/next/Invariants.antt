-- No slot before slot j has the window.
use Rattle.std.proofs.Common.{ℕ, ◌+◌, ◌*◌, ◌<◌, false}
use Rattle.table_read.proofs.windows.next.Given as goal

abbrev pub invariant-loop-j : goal.invariant-loop-j
invariant-loop-j g l = (k : ℕ) → k < l.j → goal.F-post g l.is_sought (l.at + k * l.step) false
