-- Where the fields of a block stand, of either kind. Only contracts of functions cite these; the calls' own do not.
use Rattle.std.specs.Prelude.{List, ℕ, ◌+◌, ◌*◌, ◌≤◌, ◌<◌, length}
use Rattle.settings.specs.Legal.{most_bits}
use Rattle.settings.specs.declared.layout.Blocks.{Blocks}
use Rattle.settings.specs.declared.layout.Layout.{Layout}
use Rattle.table.specs.Decode.{block_at, basic_slots, overflow_slots}

-- the counter of block i, and the w bits behind it, are within the block, which ends where places are small
pub record Fields (b : Blocks) (i w : ℕ) : Type 0 where
  pub near : block_at b i + b.bits ≤ most_bits
  pub fits : b.counter + w ≤ b.bits

-- the bytes t have block i, with w bits of link and owner
pub record BlockIn (t : List ℕ) (b : Blocks) (i w : ℕ) : Type 0 where
  pub fields : Fields b i w
  pub room : block_at b i + b.bits ≤ 8 * length t
  pub some : 0 < b.counter
  pub short : b.counter ≤ 16
  pub numbers : w ≤ 32

module _ (g : Layout) where
  -- slot p of a block
  unfoldable pub basic_slot : ℕ → ℕ → ℕ
  basic_slot i p = basic_slots g i + p * g.slot

  unfoldable pub overflow_slot : ℕ → ℕ → ℕ
  overflow_slot j p = overflow_slots g j + p * g.slot
