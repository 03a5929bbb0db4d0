-- What stands at the spot is the answer.
use mathlib.Core.Path.{sym, ap, ◌∙◌}
use Prim.Native.Nat.{◌+◌}
use native.Mathlib.Omega.{arith}
use lib.ListN.{get_or}
use Rattle.bits.specs.Field.{field}
use Rattle.bits.specs.theory.Fields.{field_fits}
use Rattle.keys.specs.Key.{key_of}
use Rattle.settings.specs.theory.Proper.{lists_are, bie_is}
use Rattle.table_read.specs.Steps.{slots_in}
use Rattle.table_read.specs.theory.Reads.{slot_entry, slot_label, entry_bound}
use Rattle.table_record.proofs.Records.{one}
use Rattle.table_record.proofs.Retrievals.{key_bound, record_as}
use Rattle.table_record.proofs.slot.retrieve_in.Goals as goal

pub returns-in-Slot : goal.returns-in-Slot
returns-in-Slot c =
    let g = c.args.g in
    let t = c.args.t.now in
    let F = c.requires.0.table.proper in
    let at = c.in-Slot.at in
    let stands = rw c.in-Slot.is at c.in_ok-list.ensures in
    ap one c.found.ensures
    ∙ record_as c.args.s g c.requires.0.laid c.in-Slot.list.0 (field t at g.slot) c.key_at-entry.result c.get-label.result
    (c.key_at-entry.ensures ∙ ap key_of (sym (slot_entry g F t at))) (c.get-label.ensures ∙ sym (slot_label g F t at))
    ∙ stands.are c.args.s c.requires.0.laid

pub returns-in-Under : goal.returns-in-Under
returns-in-Under c =
    let g = c.args.g in
    let t = c.args.t.now in
    let stands = rw c.in-Under.is at c.in_ok-list.ensures in
    ap one c.found-in-Under.ensures
    ∙ record_as c.args.s g c.requires.0.laid c.in-Under.list.0 (get_or (slots_in g t c.in-Under.run') c.in-Under.slot.0 0)
    c.entry_in-entry.result c.label_in-label.result c.entry_in-entry.ensures c.label_in-label.ensures
    ∙ stands.are c.args.s c.requires.0.laid

pub overflow_cast-label : goal.overflow_cast-label
overflow_cast-label c =
    let f = field_fits c.args.t.now (c.in-Slot.at + c.args.g.bie) c.args.g.val 32 c.requires.0.table.proper.val_high in
    omega (arith, c.get-label.ensures, f)

pub found-requires : goal.found-requires
found-requires c =
    let stands = rw c.in-Slot.is at c.in_ok-list.ensures in
    let s = c.args.s in
    let g = c.args.g in (
      c.requires.0.legal,
      rw (← lists_are s g c.requires.0.laid) stands.readable.0,
      rw (← bie_is s g c.requires.0.laid) (key_bound c.args.t.now c.in-Slot.at g.bie c.key_at-entry.result c.key_at-entry.ensures),
    )

pub found-requires-in-Under : goal.found-requires-in-Under
found-requires-in-Under c =
    let stands = rw c.in-Under.is at c.in_ok-list.ensures in
    let s = c.args.s in
    let g = c.args.g in (
      c.requires.0.legal,
      rw (← lists_are s g c.requires.0.laid) stands.readable.0,
      rw (← bie_is s g c.requires.0.laid)
          (entry_bound g c.args.t.now c.in-Under.run' c.requires.0.table.proper c.in-Under.slot.0 stands.readable.2 c.entry_in-entry.result c.entry_in-entry.ensures),
    )
