-- The blocks are followed once; the last slot goes into the hole, and the list is shrunk.
use mathlib.Core.Path.{◌≡◌, sym, ap, ap₂, ◌∙◌}
use Prim.Native.Nat.{ℕ, ◌+◌, ◌*◌, ◌^◌}
use native.Mathlib.Omega.{arith}
use Rattle.bits.specs.Field.{field}
use Rattle.bits.specs.theory.Fields.{field_cat, field_lt}
use Rattle.keys.specs.Key.{key_number}
use Rattle.table.specs.State.{slot_of}
use Rattle.table.specs.Decode.{decode}
use Rattle.table.specs.theory.Changes.{bits_high}
use Rattle.table_read.specs.theory.Places.{overflow_slot_ends}
use Rattle.table_read.specs.theory.Reads.{sized}
use Rattle.table_read.specs.theory.BlockSlots.{long_ends}
use Rattle.table_delete.proofs.RemoveLaws.{Route, route, slot_there, shrinkable, counter_kept, removed_shut, removed_open}
use Rattle.table_delete.proofs.remove.remove_long.Goals as goal
use Rattle.table_delete.proofs.remove.remove_long.Goals.{After-end_of-end, After-get_slot-moved}

pub end_of-end-requires : goal.end_of-end-requires
end_of-end-requires c =
    let a = c.args in
    (c.requires.0, rw c.basic_head.ensures (long_ends a.g (decode a.g a.t.now) a.i.0 c.requires.2.followed c.requires.2.is c.requires.3))

-- the list's end, and what follows from it
way : (c : After-end_of-end)
    → let a = c.args in
    Route a.g (decode a.g a.t.now) a.i.0 a.p c.requires.2 (sized a.g a.t.now c.requires.0) c.requires.3 c.basic_head.result c.end_of-end.result
way c =
    let a = c.args in
    route a.g (decode a.g a.t.now) a.i.0 a.p c.requires.2 (sized a.g a.t.now c.requires.0) c.requires.3 c.basic_head.result c.end_of-end.result
    c.basic_head.ensures c.end_of-end.ensures

pub overflow_counter-n-requires : goal.overflow_counter-n-requires
overflow_counter-n-requires c = (c.requires.0, (way (goal.at.overflow_counter-n-requires c).After-end_of-end).low)

pub returns-then-cannot_free : goal.returns-then-cannot_free
returns-then-cannot_free c =
    removed_shut c.requires.0 (way (goal.at.returns-then-cannot_free c).After-end_of-end) _ c.overflow_counter-n.ensures
    (sym c.cannot_free.ensures ∙ c.if-cannot_free.true)

pub overflow_slot-at-requires : goal.overflow_slot-at-requires
overflow_slot-at-requires c =
    let w = way (goal.at.overflow_slot-at-requires c).After-end_of-end in
    (c.requires.0.proper, w.low, slot_there c.requires.0 w _ c.overflow_counter-n.ensures)

pub get_slot-moved-requires : goal.get_slot-moved-requires
get_slot-moved-requires c =
    let F = c.requires.0.proper in
    let w = way (goal.at.get_slot-moved-requires c).After-end_of-end in
    let l = overflow_slot_ends c.args.g F _ w.low _ (slot_there c.requires.0 w _ c.overflow_counter-n.ensures) in
    let p = c.overflow_slot-at.ensures in
    (omega (arith, l, p, F.slot_is, c.requires.0.room), omega (arith, l, p, F.slot_is, bits_high c.args.g F), F.bie_high, F.val_high)

value_is : (c : After-get_slot-moved) → let a = c.args in
    slot_of a.g (key_number c.get_slot-moved.result.entry) c.get_slot-moved.result.label ≡ field a.t.now c.overflow_slot-at.result a.g.slot
value_is c =
    let g = c.args.g in
    let at = c.overflow_slot-at.result in
    ap₂ (λ (x y : ℕ). x * 2 ^ g.val + y) c.get_slot-moved.ensures.0 c.get_slot-moved.ensures.1
    ∙ sym (field_cat c.args.t.now at g.bie g.val)
    ∙ ap (field c.args.t.now at) (sym c.requires.0.proper.slot_is)

pub store_at_place-requires : goal.store_at_place-requires
store_at_place-requires c =
    let v = c.get_slot-moved in
    let w = way (goal.at.store_at_place-requires c).After-end_of-end in (
      c.requires.0,
      record { list = c.requires.1; last = omega (arith, w.low, w.first_low); reaches = w.reaches },
      record { entry_fits = rw v.ensures.0 (field_lt _ _ _); label_fits = rw v.ensures.1 (field_lt _ _ _) },
    )

pub shrink-requires : goal.shrink-requires
shrink-requires c =
    let w = way (goal.at.shrink-requires c).After-end_of-end in
    let q = sym c.cannot_free.ensures ∙ c.if-cannot_free.false in
    let n = c.overflow_counter-n in
    let d = c.store_at_place.ensures in (
      d.table,
      c.requires.1,
      shrinkable c.requires.0 w n.result n.ensures q _ _ _ d,
      counter_kept c.requires.0 w n.result n.ensures q _ _ _ d,
      w.prior_low,
    )

pub returns : goal.returns
returns c =
    let p = c.overflow_slot-at in
    removed_open c.requires.0 (way (goal.at.returns c).After-end_of-end) _ c.overflow_counter-n.ensures
    (sym c.cannot_free.ensures ∙ c.if-cannot_free.false) p.result _ p.ensures (value_is (goal.at.returns c).After-get_slot-moved) _ _
    c.store_at_place.ensures c.shrink.ensures
