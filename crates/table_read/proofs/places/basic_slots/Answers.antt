-- The slots of a basic block stand right behind its counter.
use native.Mathlib.Omega.{arith}
use Rattle.table.specs.Decode.{basic_slots}
use Rattle.table_read.specs.theory.Places.{basic_fields}
use Rattle.table_read.proofs.places.basic_slots.Goals as goal

pub slots_at-requires : goal.slots_at-requires
slots_at-requires c = basic_fields c.args.g c.requires.0 c.args.i.0 0 c.requires.1 (omega arith)

pub returns : goal.returns
unfolding basic_slots
returns c = omega (arith, c.slots_at.ensures)
