-- After i turns the first i bytes are zero and the others as before.
use Rattle.std.proofs.Common.{◌≡◌, ◌++◌, drop, replicate}
use Rattle.bits.proofs.zero_bytes.Given as goal

abbrev pub invariant-loop-b : goal.invariant-loop-b
invariant-loop-b l = l.b-items ≡ replicate l.b-index 0 ++ drop l.b-index l.fn.s
