-- The widths are small, and the blocks are made of them.
use Rattle.std.proofs.Common.{◌≡◌, ℕ, ◌+◌, ◌*◌, ◌≤◌, arith}
use Rattle.settings.specs.Log.{ceil_log2}
use Rattle.settings.specs.Sizes.{slot_bits, link_bits, overflow_counter_bits, overflow_start, overflow_block_bits}
use Rattle.settings.specs.Layout.{overflow_blocks}
use Rattle.settings.specs.theory.Proper.{widths_small}
use Rattle.settings.specs.declared.settings.Settings.{Settings}
use Rattle.settings.proofs.layout.Blocks.overflow.Goals as goal
use Rattle.settings.proofs.layout.Blocks.overflow.Goals.{After-ceil_log2-counter}

small_head : (c : After-ceil_log2-counter) → c.ceil_log2-counter.result + c.args.numbers ≤ 36
unfolding overflow_counter_bits
small_head c =
    let w = widths_small c.args.s c.requires.0 in
    omega (arith, c.ceil_log2-counter.ensures, c.requires.2, w.0, w.3, c.requires.0.bii_high)

pub overflow_add-counter : goal.overflow_add-counter
overflow_add-counter c = omega (arith, small_head (goal.at.overflow_add-counter c).After-ceil_log2-counter)

pub block_bits-requires : goal.block_bits-requires
block_bits-requires c = (omega (arith, small_head (goal.at.block_bits-requires c).After-ceil_log2-counter), omega (arith, c.wide.ensures), omega (arith, c.requires.1))

made : (s : Settings) {slot numbers start : ℕ} (c b x : ℕ) → slot ≡ slot_bits s → numbers ≡ link_bits s + s.bii → start ≡ overflow_start s
    → c ≡ ceil_log2 (1 + s.sio) → x ≡ s.sio → b ≡ c + numbers + x * slot
    → record { start = start; counter = c; bits = b } ≡ overflow_blocks s
unfolding overflow_counter_bits overflow_block_bits
made s c b x es el et ec ex eb = rw (eb, ex, ec, et, el, es)

pub returns : goal.returns
returns c =
    (made _ _ _ _ c.requires.1 c.requires.2 c.requires.3 c.ceil_log2-counter.ensures c.wide.ensures c.block_bits.ensures.0, c.block_bits.ensures.1)
