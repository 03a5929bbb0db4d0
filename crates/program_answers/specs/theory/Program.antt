-- The program's settings are legal; the size of its table.
use Rattle.std.specs.Prelude.{◌≡◌, refl, true}
use Rattle.std.proofs.Common.{lit≤}
use Rattle.settings.specs.Log.{ceil_log2}
use Rattle.settings.specs.Least.{least_from}
use Rattle.settings.specs.Sizes.{link_bits, free_start_bits, basic_counter_bits, basic_block_bits, lists, overflow_counter_bits, overflow_block_bits, overflow_start, table_bits, table_bytes}
use Rattle.settings.specs.Legal.{in_ranges, fits, below_prime, legal}
use Rattle.settings.specs.theory.Primes.{prime_table}
use Rattle.program_answers.specs.Program.{program, program_bytes}

-- clause 10.1: the bits of the table
pub program_bits : table_bits program ≡ 157447
unfolding link_bits free_start_bits basic_counter_bits basic_block_bits lists overflow_counter_bits overflow_block_bits overflow_start table_bits ceil_log2 least_from
program_bits = refl

pub program_bytes_lem : program_bytes ≡ 19681
unfolding program_bytes table_bytes
program_bytes_lem = rw program_bits refl

pub program_legal : legal program ≡ true
unfolding legal in_ranges fits below_prime link_bits free_start_bits basic_counter_bits basic_block_bits lists overflow_counter_bits overflow_block_bits overflow_start table_bits table_bytes ceil_log2 least_from
program_legal = rw (prime_table 8 (lit≤ tt)) refl
