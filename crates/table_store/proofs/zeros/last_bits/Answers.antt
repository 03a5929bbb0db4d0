-- The remainder drops the first bits.
use native.Mathlib.Omega.{arith}
use Rattle.table_store.specs.theory.StoreLaws.{last_bits}
use Rattle.table_store.proofs.zeros.last_bits.Goals as goal

pub returns : goal.returns
returns c = rw (c.pow.ensures, c.from.ensures) (last_bits c.args.b c.args.k (omega arith) (omega arith))
