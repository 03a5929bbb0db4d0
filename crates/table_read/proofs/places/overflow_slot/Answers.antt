-- The link, the owner and the slots up to p are within the block.
use native.Mathlib.Omega.{arith}
use native.Mathlib.Nat.{mul-le-mul_right}
use Rattle.table.specs.Decode.{overflow_slots}
use Rattle.table_read.specs.Places.{overflow_slot}
use Rattle.table_read.specs.theory.Places.{over_fields}
use Rattle.table_read.proofs.places.overflow_slot.Goals as goal

pub slot_at-requires : goal.slot_at-requires
slot_at-requires c =
    over_fields c.args.g c.requires.0 c.args.j.0 _ c.requires.1 (omega (arith, mul-le-mul_right c.args.g.slot c.requires.2))

pub returns : goal.returns
unfolding overflow_slots overflow_slot
returns c = c.slot_at.ensures
