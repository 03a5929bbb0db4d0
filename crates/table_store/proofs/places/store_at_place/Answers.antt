-- Behind the displaced bits it is one store (`stored_plain`); under them, three and the link (`stored_under`).
use mathlib.Core.Path.{◌≡◌, sym, ap, subst, ◌∙◌}
use Prim.Native.Nat.{ℕ, ◌+◌, ◌^◌, ◌≤◌, ◌<◌}
use native.Mathlib.Omega.{arith}
use Rattle.bits.specs.theory.Fields.{field_lt}
use Rattle.keys.specs.Key.{key_number}
use Rattle.table.specs.State.{slot_of}
use Rattle.table.specs.Decode.{basic_slots}
use Rattle.table_read.specs.Steps.{displaced_run}
use Rattle.table_read.specs.declared.slots.Slots.{Slots}
use Rattle.table.specs.theory.Changes.{bits_high, basic_ends, start_high}
use Rattle.table_read.specs.theory.Reads.{link_lt}
use Rattle.table_store.specs.Stores.{StoredOver, slot_put}
use Rattle.table_store.specs.theory.StoreLaws.{table_kept, slot_asks, slot_put_lem, slot_lt}
use Rattle.table_store.specs.theory.PlaceLaws.{place_ends, stored_plain, stored_under}
use Rattle.table_store.proofs.places.store_at_place.Goals as goal
use Rattle.table_store.proofs.places.store_at_place.Goals.{After-basic_slots, After-displaced_run-run, After-overflow_link-old, After-place_at-at}

-- the first L bits of the slots are in the table
head_ends : (c : After-basic_slots) → let g = c.args.g in c.basic_slots.result + g.link ≤ g.bits
unfolding basic_slots
head_ends c =
    let F = c.requires.0.proper in
    omega (arith, c.basic_slots.ensures, basic_ends c.args.g F c.args.i.0 c.requires.1.list, start_high c.args.g F, F.basic_is, F.link_fits)

pub overflow_add-basic_slots : goal.overflow_add-basic_slots
overflow_add-basic_slots c =
    omega (arith, head_ends (goal.at.overflow_add-basic_slots c).After-basic_slots, bits_high c.args.g c.requires.0.proper)

-- the slot ends in the table
slot_in_lem : (c : After-place_at-at) → let g = c.args.g in c.place_at-at.result + g.slot ≤ g.bits
slot_in_lem c =
    place_ends c.args.g c.args.t.now c.requires.0 c.args.i.0 c.args.h.0 c.args.l.0 c.args.p c.place_at-at.result c.requires.1 c.place_at-at.ensures

pub put_slot-requires : goal.put_slot-requires
unfolding key_number
put_slot-requires c =
    slot_asks c.args.g c.args.t.now c.requires.0 c.place_at-at.result _ _ (slot_in_lem (goal.at.put_slot-requires c).After-place_at-at) c.requires.2

pub returns-then-at-basic_slots : goal.returns-then-at-basic_slots
unfolding key_number slot_put
returns-then-at-basic_slots c =
    let a = c.args in
    let F = c.requires.0.proper in
    stored_plain a.g a.t.now c.requires.0 a.i.0 a.h.0 a.l.0 a.p c.place_at-at.result c.requires.1 c.place_at-at.ensures _
    (slot_lt a.g F _ _ c.requires.2) (λ j. omega (arith, c.slice_known-1.given j))
    (omega (arith, c.if-at-basic_slots.true, c.basic_slots.ensures)) _
    (slot_put_lem a.g F _ _ _ _ c.put_slot.ensures)

-- the slots of the basic block, whose first bits count as the link of block l
start_is : (c : After-displaced_run-run) → let a = c.args in c.displaced_run-run.result.start ≡ basic_slots a.g a.i.0
unfolding displaced_run
start_is c = ap (λ (b : Slots). b.start) c.displaced_run-run.ensures

displaced_is : (c : After-displaced_run-run) → c.displaced_run-run.result.displaced ≡ c.args.g.link
unfolding displaced_run
displaced_is c = ap (λ (b : Slots). b.displaced) c.displaced_run-run.ensures

value_is : (c : After-displaced_run-run) → c.displaced_run-run.result.value ≡ c.overflow_link-old.result
unfolding displaced_run
value_is c = ap (λ (b : Slots). b.value) c.displaced_run-run.ensures

old_fits : (c : After-overflow_link-old) → c.overflow_link-old.result < 2 ^ c.args.g.link
old_fits c =
    rw c.overflow_link-old.ensures (link_lt c.args.g c.args.t.now c.requires.0 c.args.l.0 c.requires.1.last)

pub store_over_displaced-new-requires : goal.store_over_displaced-new-requires
store_over_displaced-new-requires c =
    let F = c.requires.0.proper in record { val_bound = slot_asks c.args.g c.args.t.now c.requires.0 c.place_at-at.result _ _ (slot_in_lem (goal.at.store_over_displaced-new-requires c).After-place_at-at) c.requires.2; displaced_bound = (omega (arith, start_is (goal.at.store_over_displaced-new-requires c).After-displaced_run-run, displaced_is (goal.at.store_over_displaced-new-requires c).After-displaced_run-run, c.basic_slots.ensures, head_ends (goal.at.store_over_displaced-new-requires c).After-basic_slots, c.requires.0.room), omega (arith, displaced_is (goal.at.store_over_displaced-new-requires c).After-displaced_run-run, F.link_high), rw (displaced_is (goal.at.store_over_displaced-new-requires c).After-displaced_run-run, value_is (goal.at.store_over_displaced-new-requires c).After-displaced_run-run) (old_fits (goal.at.store_over_displaced-new-requires c).After-overflow_link-old)) }

pub put_overflow_link-requires : goal.put_overflow_link-requires
put_overflow_link-requires c =
    let new : c.store_over_displaced-new.result < 2 ^ c.args.g.link = rw (c.store_over_displaced-new.ensures.head, displaced_is (goal.at.put_overflow_link-requires c).After-displaced_run-run) (field_lt _ _ _) in
    let old = old_fits (goal.at.put_overflow_link-requires c).After-overflow_link-old in
    (table_kept _ c.store_over_displaced-new.auto.t c.requires.0, c.requires.1.last, omega arith)

pub returns : goal.returns
returns c =
    let a = c.args in
    let F = c.requires.0.proper in
    let r = c.displaced_run-run.result in
    let x = slot_of a.g (key_number a.v.entry) a.v.label in
    stored_under a.g a.t.now c.requires.0 a.i.0 a.h.0 a.l.0 a.p c.place_at-at.result c.requires.1 c.place_at-at.ensures x
    (slot_lt a.g F _ _ c.requires.2) (omega (arith, c.if-at-basic_slots.false, c.basic_slots.ensures)) r.value r.start _ _ _
    (value_is (goal.at.returns c).After-displaced_run-run ∙ c.overflow_link-old.ensures) (start_is (goal.at.returns c).After-displaced_run-run)
    (subst (λ (m : ℕ). StoredOver m a.g.slot a.t.now c.store_over_displaced-new.new.t r.start r.value c.place_at-at.result x c.store_over_displaced-new.result) (displaced_is (goal.at.returns c).After-displaced_run-run)
    (subst (λ (n : ℕ). StoredOver r.displaced n a.t.now c.store_over_displaced-new.new.t r.start r.value c.place_at-at.result x c.store_over_displaced-new.result) (sym F.slot_is) c.store_over_displaced-new.ensures))
    c.put_overflow_link.ensures
