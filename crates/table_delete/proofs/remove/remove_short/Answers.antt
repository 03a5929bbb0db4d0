-- The last slot goes into the hole, the vacant slot and the counter follow. A slot put onto itself changes nothing.
use mathlib.Core.Path.{◌≡◌, sym, ap, ◌∙◌}
use Prim.Native.Nat.{ℕ, ◌+◌, ◌-◌, ◌≤◌, ◌<◌}
use native.Mathlib.Omega.{arith}
use lib.ListN.{length}
use Rattle.bits.specs.Field.{field}
use Rattle.bits.specs.Put.{put_field}
use Rattle.bits.specs.theory.Fields.{field_lt}
use Rattle.bits.specs.theory.Puts.{put_own, put_length}
use Rattle.table.specs.theory.Changes.{bits_high}
use Rattle.table_read.specs.theory.Places.{basic_slot_ends}
use Rattle.table_store.specs.Stores.{slot_put}
use Rattle.table_store.specs.theory.StoreLaws.{copy_asks}
use Rattle.table_delete.proofs.RemoveLaws.{removed_short}
use Rattle.table_delete.proofs.remove.remove_short.Goals as goal
use Rattle.table_delete.proofs.remove.remove_short.Goals.{After-basic_slot-hole, Joined-hole-last, then-hole-last, else-hole-last}

-- the two slots are in the table
last_ends : (c : After-basic_slot-hole) → c.basic_slot-last.result + c.args.g.slot ≤ c.args.g.bits
last_ends c =
    let k : c.args.c - 1 < c.args.g.sib = omega arith in
    omega (arith, basic_slot_ends c.args.g c.requires.0.proper c.args.i.0 c.requires.1 (c.args.c - 1) k, c.basic_slot-last.ensures)

hole_ends : (c : After-basic_slot-hole) → c.basic_slot-hole.result + c.args.g.slot ≤ c.args.g.bits
hole_ends c =
    let k : c.args.p < c.args.g.sib = omega arith in
    omega (arith, basic_slot_ends c.args.g c.requires.0.proper c.args.i.0 c.requires.1 c.args.p k, c.basic_slot-hole.ensures)

pub copy-requires : goal.copy-requires
copy-requires c =
    copy_asks c.args.g c.args.t.now c.requires.0 _ _ (omega (arith, last_ends (goal.at.copy-requires c).After-basic_slot-hole, hole_ends (goal.at.copy-requires c).After-basic_slot-hole)) (omega (arith, last_ends (goal.at.copy-requires c).After-basic_slot-hole, hole_ends (goal.at.copy-requires c).After-basic_slot-hole))

-- in either case the last slot is in the hole
moved : (c : Joined-hole-last) → let a = c.args in
    c.if-hole-last.t ≡ put_field a.t.now c.basic_slot-hole.result a.g.slot (field a.t.now c.basic_slot-last.result a.g.slot)
moved c =
    let a = c.args in
    let last = c.basic_slot-last.result in
    elim c.if-hole-last.branch [
      | then-hole-last w ↦ w.t-is ∙ w.copy.ensures
      | else-hole-last w ↦ w.t-is
          ∙ sym
          (ap (λ (n : ℕ). put_field a.t.now n a.g.slot (field a.t.now last a.g.slot)) w.if-hole-last.false
          ∙ put_own a.t.now last a.g.slot)
    ]

long : (c : Joined-hole-last) → length c.if-hole-last.t ≡ length c.args.t.now
long c = ap length (moved c) ∙ put_length _ _ _ _

pub clear-requires : goal.clear-requires
clear-requires c =
    omega (arith, last_ends (goal.at.clear-requires c).After-basic_slot-hole, long (goal.at.clear-requires c).Joined-hole-last, bits_high c.args.g c.requires.0.proper, c.requires.0.room)

pub returns : goal.returns
unfolding slot_put
returns c =
    let a = c.args in
    let last = c.basic_slot-last in
    let x = field a.t.now last.result a.g.slot in
    removed_short a.g a.t.now c.requires.0 a.i.0 a.p a.c x c.requires.1 c.requires.2 c.requires.3 c.requires.4
    (ap (λ (y : ℕ). field a.t.now y a.g.slot) last.ensures) (field_lt a.t.now last.result a.g.slot) _ _ _
    (moved (goal.at.returns c).Joined-hole-last ∙ ap (λ (y : ℕ). put_field a.t.now y a.g.slot x) c.basic_slot-hole.ensures)
    (c.clear.ensures ∙ ap (λ (y : ℕ). put_field c.if-hole-last.t y a.g.slot 0) last.ensures)
    c.put_basic_counter.ensures
