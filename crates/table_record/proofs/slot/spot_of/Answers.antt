-- A number below the capacity of the basic blocks is a list and a place in its basic block; the others are a block and a place in it.
use native.Mathlib.Nat.{mod-lt}
use native.Mathlib.Omega.{arith}
use Rattle.table.specs.Numbers.{capacity}
use Rattle.table_record.proofs.Retrievals.{block_below, basic_few, overflow_few, number_basic, number_overflow}
use Rattle.table_record.proofs.slot.spot_of.Goals as goal

pub overflow_cast-k : goal.overflow_cast-k
unfolding capacity
overflow_cast-k c =
    let F = c.requires.0.proper in
    omega (arith, c.requires.1, basic_few c.args.g F, overflow_few c.args.g F)

pub returns-then-n-basic : goal.returns-then-n-basic
returns-then-n-basic c =
    number_basic c.args.g c.args.t.now c.in_basic.result c.args.n (omega (arith, c.if-n-basic.true, c.basic_capacity-basic.ensures)) c.in_basic.ensures

pub in_overflow-requires : goal.in_overflow-requires
in_overflow-requires c = (
  c.requires.0,
  block_below c.args.g c.requires.0.proper c.args.n c.basic_capacity-basic.result c.basic_capacity-basic.ensures c.if-n-basic.false c.requires.1,
  mod-lt _ c.requires.0.proper.sio_low,
)

pub returns : goal.returns
returns c =
    number_overflow c.args.g c.args.t.now c.in_overflow.result c.args.n c.basic_capacity-basic.result c.basic_capacity-basic.ensures c.if-n-basic.false
    c.in_overflow.ensures
