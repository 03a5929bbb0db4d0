-- The slots up to p are within those of the block.
use native.Mathlib.Omega.{arith}
use native.Mathlib.Nat.{mul-le-mul_right}
use Rattle.table.specs.Decode.{basic_slots}
use Rattle.table_read.specs.Places.{basic_slot}
use Rattle.table_read.specs.theory.Places.{basic_fields}
use Rattle.table_read.proofs.places.basic_slot.Goals as goal

pub slot_at-requires : goal.slot_at-requires
slot_at-requires c =
    basic_fields c.args.g c.requires.0 c.args.i.0 _ c.requires.1 (omega (arith, mul-le-mul_right c.args.g.slot c.requires.2))

pub returns : goal.returns
unfolding basic_slots basic_slot
returns c = omega (arith, c.slot_at.ensures)
