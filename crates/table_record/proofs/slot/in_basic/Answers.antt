-- A list without overflow blocks has as many slots as its counter says, each as it stands.
use native.Mathlib.Omega.{arith}
use Rattle.table_record.proofs.Retrievals.{short_empty, short_slot}
use Rattle.table_record.proofs.slot.in_basic.Goals as goal

pub returns-then-p-count : goal.returns-then-p-count
returns-then-p-count c =
    short_empty c.args.g c.args.t.now c.requires.0 c.args.i c.requires.1 c.args.p c.basic_counter-count.result c.basic_counter-count.ensures
    (omega (arith, c.if-count-g.false)) (omega (arith, c.if-p-count.true))

pub returns : goal.returns
returns c =
    short_slot c.args.g c.args.t.now c.requires.0 c.args.i c.requires.1 c.args.p c.basic_counter-count.result c.basic_counter-count.ensures
    (omega (arith, c.if-count-g.false)) c.basic_slot.result c.basic_slot.ensures (omega (arith, c.if-p-count.false))
