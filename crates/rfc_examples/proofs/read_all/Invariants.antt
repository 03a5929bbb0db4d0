use Rattle.std.proofs.Common.{◌≤◌, length}
use Rattle.rfc_examples.proofs.read_all.Given as goal

abbrev pub invariant-loop : goal.invariant-loop
invariant-loop l = l.n ≤ length l.buffer
