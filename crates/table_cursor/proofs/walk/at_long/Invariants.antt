-- A run that ends before the entry is passed, and its count is taken off the entries that are to pass yet.
use Rattle.table_cursor.proofs.Toward.{Toward}
use Rattle.table_cursor.proofs.walk.at_long.Given as goal

abbrev pub invariant-loop-c : goal.invariant-loop-c
invariant-loop-c l = Toward l.g l.t l.i.0 l.n l.c l.left

abbrev pub decreases-loop-c : goal.decreases-loop-c
decreases-loop-c l = l.left
