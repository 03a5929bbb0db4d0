-- The vacant slot and the counter, stored in a row.
use native.Mathlib.Omega.{arith}
use Rattle.table_read.specs.Places.{BlockIn}
use Rattle.table.specs.theory.Changes.{bits_high}
use Rattle.table_delete.proofs.DeleteLaws.{stored_slot_off}
use Rattle.table_read.specs.theory.Places.{over_in, overflow_slot_ends}
use Rattle.table_delete.proofs.shrink.drop_last_slot.Goals as goal
use Rattle.table_delete.proofs.shrink.drop_last_slot.Goals.{Start}

-- block j
block : (s : Start) → BlockIn s.args.t.now s.args.g.overflow s.args.j.0 0
block s = over_in s.args.g s.args.t.now s.requires.0 0 (omega arith) s.args.j.0 s.requires.1

pub counter_at-requires : goal.counter_at-requires
counter_at-requires c = (block (goal.at.counter_at-requires c).Start).fields

pub clear_and_put-requires : goal.clear_and_put-requires
clear_and_put-requires c =
    let F = c.requires.0.proper in
    let b = block (goal.at.clear_and_put-requires c).Start in
    let l = overflow_slot_ends c.args.g F c.args.j.0 c.requires.1 c.args.n c.requires.3 in
    let e = c.overflow_slot.ensures in
    (omega (arith, l, e, c.requires.0.room), omega (arith, l, e, bits_high c.args.g F), omega (arith, b.room, b.fields.fits, b.short, c.counter_at.ensures), omega (arith, c.requires.3, F.overflow_holds))

pub returns : goal.returns
returns c =
    stored_slot_off c.args.g c.args.t.now c.requires.0 c.args.j.0 c.requires.1 c.args.n _ _ c.requires.3 c.requires.4
    c.overflow_slot.ensures c.counter_at.ensures _ c.clear_and_put.ensures
