-- The quotient drops the last bits, and the product puts zeros there.
use Prim.Native.Nat.{◌-◌}
use Rattle.table_store.specs.theory.StoreLaws.{first_bits}
use Rattle.table_store.proofs.zeros.first_bits.Goals as goal
use Rattle.table_store.proofs.zeros.first_bits.Goals.{After-pow-q}

pub returns : goal.returns
returns c = rw (c.pow-q.ensures, c.from.ensures) (first_bits c.args.b (8 - c.args.k))
