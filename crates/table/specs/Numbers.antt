-- Clause 6.17: the number of a slot. The slots of the basic blocks are numbered first, list by list, then those of the overflow blocks.
use Rattle.std.specs.Prelude.{ℕ, ◌+◌, ◌-◌, ◌*◌, cond, List, [], ◌∷◌, ltb}
use Rattle.settings.specs.declared.layout.Layout.{Layout}

module _ (g : Layout) where
  -- slot p of basic block i
  abbrev pub basic_number : ℕ → ℕ → ℕ
  basic_number i p = g.sib * i + p

  -- the slots of all basic blocks
  abbrev pub basic_capacity : ℕ
  basic_capacity = g.sib * g.lists

  -- slot k of overflow block j
  abbrev pub overflow_number : ℕ → ℕ → ℕ
  overflow_number j k = basic_capacity + g.sio * j + k

  -- all slots
  unfoldable pub capacity : ℕ
  capacity = basic_capacity + g.sio * g.nob

  -- place q of the overflow blocks, counted through them
  abbrev pub block_number : List ℕ → ℕ → ℕ
  block_number [] q = 0
  block_number (b ∷ bs) q = cond (ltb q g.sio) (overflow_number b q) (block_number bs (q - g.sio))

  -- place p of list i, whose overflow blocks are bs
  unfoldable pub slot_number : ℕ → List ℕ → ℕ → ℕ
  slot_number i bs p = cond (ltb p g.sib) (basic_number i p) (block_number bs (p - g.sib))
