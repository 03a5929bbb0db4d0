-- By the number of the list's entries.
use mathlib.Core.Path.{◌≡◌, sym, ◌∙◌}
use Prim.Native.Nat.{◌≤◌, ◌<◌}
use native.Mathlib.Omega.{arith}
use Rattle.table.specs.State.{basic_at, overflow_at}
use Rattle.table.specs.Decode.{decode}
use Rattle.table_read.specs.theory.Reads.{sized}
use Rattle.table_enter.specs.Enters.{EndsIn}
use Rattle.table_enter.proofs.FreeLaws.{few, last_reached, ends_in}
use Rattle.table_enter.proofs.AppendLaws.{counter_small}
use Rattle.table_enter.proofs.append.append.Goals as goal
use Rattle.table_enter.proofs.append.append.Goals.{After-block_slot_of-last, Else-c-g-2, Start}

-- the basic block's counter, where it has all the entries
counter_is : (s : Start) → let a = s.args in a.v.compared ≤ a.g.sib → a.v.compared ≡ (basic_at (decode a.g a.t.now).basic a.i.0).counter
counter_is s h =
    let a = s.args in
    few a.g (decode a.g a.t.now) a.i.0 a.v.compared s.requires.1 (sized a.g a.t.now s.requires.0.table) h

-- the list overflows
many : (c : Else-c-g-2) → let a = c.args in a.g.sib < a.v.compared
many c = omega (arith, c.if-c-g.false, c.if-c-g-2.false)

pub append_room-requires : goal.append_room-requires
append_room-requires c =
    (c.requires.0, c.if-c-g.true, counter_is (goal.at.append_room-requires c).Start (omega (arith, c.if-c-g.true)))

pub append_first-requires : goal.append_first-requires
append_first-requires c =
    (c.requires.0, sym (counter_is (goal.at.append_first-requires c).Start (omega (arith, c.if-c-g-2.true))) ∙ c.if-c-g-2.true)

pub overflow_sub-c-2 : goal.overflow_sub-c-2
overflow_sub-c-2 c = omega (arith, many (goal.at.overflow_sub-c-2 c).Else-c-g-2)

pub block_slot_of-last-requires : goal.block_slot_of-last-requires
block_slot_of-last-requires c =
    let a = c.args in
    let T = c.requires.0.table in (
      T,
      last_reached a.g (decode a.g a.t.now) a.i.0 a.v.compared c.requires.1 (sized a.g a.t.now T)
          (many (goal.at.block_slot_of-last-requires c).Else-c-g-2) c.basic_head.result c.basic_head.ensures,
    )

many_at_after_block_slot_of : (c : After-block_slot_of-last) → let a = c.args in a.g.sib < a.v.compared
many_at_after_block_slot_of c = omega (arith, c.if-c-g.false, c.if-c-g-2.false)

-- the last entry stands at the list's end
end_is : (c : After-block_slot_of-last)
    → let a = c.args in let st = decode a.g a.t.now in
    EndsIn a.g st a.i.0 c.basic_head.result c.block_slot_of-last.result.block.0
    × (c.block_slot_of-last.result.slot.0 ≡ (overflow_at st.overflow c.block_slot_of-last.result.block.0).counter)
end_is c =
    let a = c.args in
    ends_in a.g (decode a.g a.t.now) a.i.0 a.v.compared c.requires.1 (sized a.g a.t.now c.requires.0.table)
    (many_at_after_block_slot_of c) c.basic_head.result c.basic_head.ensures
    c.block_slot_of-last.result c.block_slot_of-last.ensures

pub overflow_add-last : goal.overflow_add-last
overflow_add-last c =
    let e = end_is (goal.at.overflow_add-last c).After-block_slot_of-last in
    omega (arith, e.1, counter_small c.args.g c.args.t.now c.requires.0.table c.block_slot_of-last.result.block.0 e.0.low)

pub append_overflow-requires : goal.append_overflow-requires
append_overflow-requires c =
    let e = end_is (goal.at.append_overflow-requires c).After-block_slot_of-last in
    (c.requires.0, e.0, omega (arith, e.1))
