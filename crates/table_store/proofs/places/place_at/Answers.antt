-- By the place: in the basic block, or in one of the overflow blocks.
use mathlib.Core.Path.{◌≡◌, sym, ap, ◌∙◌}
use Prim.Native.Nat.{◌-◌, ◌<◌}
use native.Mathlib.Omega.{arith}
use borrow.Author.Tests.{lt-ltb, le-ltb}
use Rattle.table.specs.Decode.{decode}
use Rattle.table_read.specs.Places.{overflow_slot}
use Rattle.table_read.specs.declared.lists.BlockSlot.{BlockSlot}
use Rattle.table_read.specs.theory.Reads.{sized}
use Rattle.table_store.specs.Places.{place_from}
use Rattle.table_store.specs.theory.PlaceLaws.{in_blocks_at}
use Rattle.table_store.proofs.places.place_at.Goals as goal
use Rattle.table_store.proofs.places.place_at.Goals.{After-block_slot_of-s}

pub returns-then-p-g : goal.returns-then-p-g
unfolding place_from
returns-then-p-g c =
    c.basic_slot.ensures ∙ sym (rw (lt-ltb c.args.p c.args.g.sib c.if-p-g.true))

-- the place is in a block of the table
block_slot_low : (c : After-block_slot_of-s) → (c.block_slot_of-s.result.block.0 < c.args.g.nob) × (c.block_slot_of-s.result.slot.0 < c.args.g.sio)
block_slot_low c =
    let a = c.args in
    let k = in_blocks_at a.g (decode a.g a.t.now).overflow (sized a.g a.t.now c.requires.0) a.h.0 (a.p - a.g.sib) (c.requires.1.reaches c.if-p-g.false) in
    let b : c.block_slot_of-s.result.block.0 ≡ _ = ap (λ (x : BlockSlot). x.block.0) c.block_slot_of-s.ensures in
    let d : c.block_slot_of-s.result.slot.0 ≡ _ = ap (λ (x : BlockSlot). x.slot.0) c.block_slot_of-s.ensures in
    (omega (arith, b, k.low), omega (arith, d, k.few))

pub overflow_slot-requires : goal.overflow_slot-requires
overflow_slot-requires c = let k = block_slot_low (goal.at.overflow_slot-requires c).After-block_slot_of-s in (c.requires.0.proper, k.0, k.1)

pub returns : goal.returns
unfolding place_from
returns c =
    c.overflow_slot.ensures
    ∙ ap (λ (x : BlockSlot). overflow_slot c.args.g x.block.0 x.slot.0) c.block_slot_of-s.ensures
    ∙ sym (rw (le-ltb c.args.p c.args.g.sib c.if-p-g.false))
