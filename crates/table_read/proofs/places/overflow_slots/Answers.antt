-- The slots of an overflow block stand behind its link and its owner.
use native.Mathlib.Omega.{arith}
use Rattle.table.specs.Decode.{overflow_slots}
use Rattle.table_read.specs.theory.Places.{over_fields}
use Rattle.table_read.proofs.places.overflow_slots.Goals as goal

pub slots_at-requires : goal.slots_at-requires
slots_at-requires c = over_fields c.args.g c.requires.0 c.args.j.0 _ c.requires.1 (omega arith)

pub returns : goal.returns
unfolding overflow_slots
returns c = c.slots_at.ensures
