-- Places of a list, and a slot stored in one, by the numbers that functions have at hand.
use Rattle.std.specs.Prelude.{ℕ, ◌-◌, ◌≤◌, ◌<◌, ◌≡◌, cond, length, ltb}
use Rattle.std.proofs.Math.Option.{some}
use Rattle.settings.specs.declared.layout.Layout.{Layout}
use Rattle.table.specs.State.{State}
use Rattle.table.specs.Updates.{with_slot, over_overflow}
use Rattle.table.specs.Follow.{Content, content}
use Rattle.table.specs.Store.{store_displaced}
use Rattle.table_read.specs.Places.{basic_slot, overflow_slot}
use Rattle.table_read.specs.BlockSlots.{blocks_from, block_slot_in, Reaches}
use Rattle.table_read.specs.declared.lists.BlockSlot.{BlockSlot}

-- x in the slot s of an overflow block
abbrev pub store_in_block : BlockSlot → ℕ → State → State
store_in_block s x = over_overflow s.block.0 (with_slot s.slot.0 x)

module _ (g : Layout) where
  -- list i can be followed to its end, and has a place p
  pub record Placed (st : State) (i p : ℕ) : Type 0 where
    pub followed : Content
    pub is : content g st i ≡ some followed
    pub within : p < length followed.slots

  -- x in place p of list i, whose overflow blocks go from h to l
  unfoldable pub store_from : ℕ → ℕ → ℕ → ℕ → ℕ → State → State
  store_from i h l p x st =
      cond (ltb p g.sib) (store_displaced g i l p x st) (store_in_block (block_slot_in g (blocks_from g st.overflow h) (p - g.sib)) x st)

  -- where place p of list i begins, whose overflow blocks go on from h
  unfoldable pub place_from : ℕ → ℕ → ℕ → State → ℕ
  place_from i h p st =
      let s = block_slot_in g (blocks_from g st.overflow h) (p - g.sib) in
      cond (ltb p g.sib) (basic_slot g i p) (overflow_slot g s.block.0 s.slot.0)

  -- list i, whose overflow blocks go from h to l, has a place p
  pub record Storable (st : State) (i h l p : ℕ) : Type 0 where
    pub list : i < g.lists
    pub last : l < g.nob
    pub reaches : g.sib ≤ p → Reaches g st.overflow h (p - g.sib)
