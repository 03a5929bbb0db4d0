-- The label is the last bits of the slot, which is within the slots.
use mathlib.Core.Path.{sym, ◌∙◌}
use Prim.Native.Nat.{◌+◌, ◌*◌, ◌≤◌}
use Rattle.bits.specs.theory.Fields.{field_fits}
use Rattle.table_read.specs.Steps.{restored_bytes}
use Rattle.table_read.specs.theory.Reads.{slot_inside, label_in_lem}
use Rattle.table_read.proofs.slots.label_in.Goals as goal
use Rattle.table_read.proofs.slots.label_in.Goals.{Start}

inside : (s : Start) → s.args.b.start + s.args.j.0 * s.args.g.slot + s.args.g.slot ≤ s.args.b.start + s.args.b.count * s.args.g.slot
inside s = slot_inside s.args.g s.args.t.now s.args.b s.args.j.0 s.requires.2

pub overflow_cast-result : goal.overflow_cast-result
overflow_cast-result c =
    let f = field_fits (restored_bytes c.args.t.now c.args.b) (c.args.b.start + c.args.j.0 * c.args.g.slot + c.args.g.bie) c.args.g.val 32 c.requires.0.val_high in
    record { fits = rw c.restored.ensures f }

pub returns : goal.returns
returns c =
    c.restored.ensures ∙ sym (label_in_lem c.args.g c.args.t.now c.args.b c.requires.0 c.args.j.0 c.requires.2)
