-- A list's overflow blocks, and where an entry stands among them. Only contracts of functions cite these; the calls' own do not.
use Rattle.std.specs.Prelude.{ℕ, ◌-◌, ◌<◌, Bool, cond, List, [], ◌∷◌, length, ltb}
use Rattle.std.proofs.Math.Option.{Option, none, some}
use Rattle.settings.specs.declared.layout.Layout.{Layout}
use Rattle.table.specs.State.{Overflow}
use Rattle.table.specs.Follow.{follow, gather}
use Rattle.table.specs.Take.{occurs}
use Rattle.table.specs.Numbers.{block_number}
use Rattle.table_read.specs.Steps.{Followed}
use Rattle.table_read.specs.declared.lists.BlockSlot.{BlockSlot}

-- the blocks that were followed; none where there is damage
abbrev pub blocks_in : Option (List ℕ) → List ℕ
blocks_in none = []
blocks_in (some bs) = bs

-- slot q of block b
abbrev pub block_slot : ℕ → ℕ → BlockSlot
block_slot b q = record { block = record { 0 = b }; slot = record { 0 = q } }

module _ (g : Layout) where
  -- the list's overflow blocks from block b on
  unfoldable pub blocks_from : List Overflow → ℕ → List ℕ
  blocks_from os b = blocks_in (follow g g.nob os b)

  -- whether f is one of the blocks from b on, of which at most n are followed
  unfoldable pub has_block : ℕ → List Overflow → ℕ → ℕ → Bool
  has_block n os b f = ltb 0 (occurs f (blocks_in (follow g n os b)))

  -- the number of the slot in place q of the blocks from b on, of which at most n are followed
  unfoldable pub number_from : ℕ → List Overflow → ℕ → ℕ → ℕ
  number_from n os b q = block_number g (blocks_in (follow g n os b)) q

  -- place q of the blocks, counted through them
  abbrev pub block_slot_in : List ℕ → ℕ → BlockSlot
  block_slot_in [] q = block_slot g.nob q
  block_slot_in (b ∷ bs) q = cond (ltb q g.sio) (block_slot b q) (block_slot_in bs (q - g.sio))

  -- the list that goes on at block b has an end, and place q is in it
  pub record Reaches (os : List Overflow) (b q : ℕ) : Type 0 where
    pub ends : Followed g g.nob os b
    pub within : q < length (gather g os (blocks_from os b))
