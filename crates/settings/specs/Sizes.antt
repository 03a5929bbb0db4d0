-- Clauses 2.2 and 4.2 to 4.8: the numbers that follow from the settings.
use Rattle.std.specs.Prelude.{ℕ, ◌+◌, ◌-◌, ◌*◌, ◌/◌, ◌^◌}
use Rattle.settings.specs.Log.{ceil_log2}
use Rattle.settings.specs.declared.settings.Settings.{Settings}

module _ (s : Settings) where
  -- clause 2.2: the bits of an entry
  abbrev pub bie : ℕ
  bie = s.w - s.bii

  -- clause 4.6: a slot is an entry, and then its label
  abbrev pub slot_bits : ℕ
  slot_bits = bie + s.val

  -- clause 2.2: the bits of a link
  unfoldable pub link_bits : ℕ
  link_bits = ceil_log2 s.nob

  -- clause 4.3: the bits of the free start
  unfoldable pub free_start_bits : ℕ
  free_start_bits = ceil_log2 (1 + s.nob)

  -- clause 4.4: basic blocks
  unfoldable pub basic_counter_bits : ℕ
  basic_counter_bits = ceil_log2 (2 + s.sib)

  unfoldable pub basic_block_bits : ℕ
  basic_block_bits = basic_counter_bits + s.sib * slot_bits

  unfoldable pub lists : ℕ
  lists = 2 ^ s.bii

  -- clause 4.5: overflow blocks; the number of a list has bii bits
  unfoldable pub overflow_counter_bits : ℕ
  overflow_counter_bits = ceil_log2 (1 + s.sio)

  unfoldable pub overflow_block_bits : ℕ
  overflow_block_bits = overflow_counter_bits + (link_bits + s.bii) + s.sio * slot_bits

  -- where overflow block 0 begins: behind the free start and the basic blocks
  unfoldable pub overflow_start : ℕ
  overflow_start = free_start_bits + lists * basic_block_bits

  unfoldable pub table_bits : ℕ
  table_bits = overflow_start + s.nob * overflow_block_bits

  -- clause 4.8: the size in bytes, the fill in it
  unfoldable pub table_bytes : ℕ
  table_bytes = (table_bits + 7) / 8
