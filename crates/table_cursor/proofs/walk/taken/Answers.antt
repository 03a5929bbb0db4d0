-- The slot at the cursor is the first of those ahead.
use native.Mathlib.Omega.{arith}
use Rattle.table_cursor.proofs.Move.{gives_slot}
use Rattle.table_cursor.proofs.walk.taken.Goals as goal

pub returns : goal.returns
returns c =
    rw c.apart.ensures
    (gives_slot c.args.g c.args.t.now c.requires.0.proper c.args.c c.requires.1 c.requires.2 c.held-slot.result.entry c.held-slot.result.label _
    c.held-slot.ensures.entry c.held-slot.ensures.label (omega arith))
