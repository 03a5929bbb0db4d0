-- The power is the one that the contract names, so that its bound is the bound on the code's sum.
use native.Mathlib.Omega.{arith}
use Rattle.bits.proofs.number.join.Goals as goal

pub overflow_mul-result : goal.overflow_mul-result
overflow_mul-result c = rw c.pow.ensures (omega arith)

pub overflow_add-result : goal.overflow_add-result
overflow_add-result c = rw c.pow.ensures (omega arith)

pub returns : goal.returns
returns c = cc
