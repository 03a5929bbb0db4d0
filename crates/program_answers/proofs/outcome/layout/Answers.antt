-- The layout is computed from the settings, here once and for all.
use mathlib.Core.Path.{refl}
use Rattle.settings.specs.Log.{ceil_log2}
use Rattle.settings.specs.Least.{least_from}
use Rattle.settings.specs.Sizes.{link_bits, free_start_bits, basic_counter_bits, basic_block_bits, lists, overflow_counter_bits, overflow_block_bits, overflow_start, table_bits, table_bytes}
use Rattle.settings.specs.Layout.{layout_of}
use Rattle.program_answers.proofs.outcome.layout.Goals as goal

pub returns : goal.returns
unfolding layout_of link_bits free_start_bits basic_counter_bits basic_block_bits lists overflow_counter_bits overflow_block_bits overflow_start table_bits table_bytes ceil_log2 least_from
returns c = refl
