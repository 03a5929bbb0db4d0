-- The widths are small, and the blocks are made of them.
use Rattle.std.proofs.Common.{◌≡◌, ℕ, ◌+◌, ◌*◌, ◌≤◌, arith}
use Rattle.settings.specs.Log.{ceil_log2}
use Rattle.settings.specs.Sizes.{slot_bits, free_start_bits, basic_counter_bits, basic_block_bits}
use Rattle.settings.specs.Layout.{basic_blocks}
use Rattle.settings.specs.theory.Proper.{widths_small}
use Rattle.settings.specs.declared.settings.Settings.{Settings}
use Rattle.settings.proofs.layout.Blocks.basic.Goals as goal
use Rattle.settings.proofs.layout.Blocks.basic.Goals.{After-wide}

small_counter : (c : After-wide) → c.ceil_log2-counter.result ≤ 9
unfolding basic_counter_bits
small_counter c = omega (arith, c.ceil_log2-counter.ensures, (widths_small c.args.s c.requires.0).2)

pub block_bits-requires : goal.block_bits-requires
block_bits-requires c = (omega (arith, small_counter (goal.at.block_bits-requires c).After-wide), omega (arith, c.wide.ensures), omega (arith, c.requires.1))

made : (s : Settings) {slot : ℕ} (f c b x : ℕ) → slot ≡ slot_bits s → f ≡ ceil_log2 (1 + s.nob) → c ≡ ceil_log2 (2 + s.sib) → x ≡ s.sib
    → b ≡ c + x * slot → record { start = f; counter = c; bits = b } ≡ basic_blocks s
unfolding free_start_bits basic_counter_bits basic_block_bits
made s f c b x es ef ec ex eb = rw (eb, ex, ec, ef, es)

pub returns : goal.returns
unfolding free_start_bits
returns c = (
  made _ _ _ _ _ c.requires.1 c.ceil_log2.ensures c.ceil_log2-counter.ensures c.wide.ensures c.block_bits.ensures.0,
  omega (arith, c.ceil_log2.ensures, (widths_small c.args.s c.requires.0).1),
  c.block_bits.ensures.1,
)
