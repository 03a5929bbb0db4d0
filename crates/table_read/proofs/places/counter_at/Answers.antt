-- All is below the end of the block.
use mathlib.Core.Path.{refl}
use native.Mathlib.Omega.{arith}
use Rattle.table.specs.Decode.{block_at}
use Rattle.table_read.proofs.places.counter_at.Goals as goal

pub returns : goal.returns
unfolding block_at
returns c = refl

pub overflow_mul-result : goal.overflow_mul-result
unfolding block_at
overflow_mul-result c = omega arith

pub overflow_add-result : goal.overflow_add-result
unfolding block_at
overflow_add-result c = omega arith
