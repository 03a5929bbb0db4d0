-- What examples of tables compute with: `unfolding computing` opens it all.
use Rattle.bits.specs.Field.{bit_at, field}
use Rattle.bits.specs.Put.{replaced, put_bit, put_field}
use Rattle.settings.specs.Least.{least_from}
use Rattle.settings.specs.Log.{ceil_log2}
use Rattle.settings.specs.Prime.{none_divides, is_prime, prime_above}
use Rattle.settings.specs.Sizes.{link_bits, free_start_bits, basic_counter_bits, basic_block_bits, lists, overflow_counter_bits, overflow_block_bits, overflow_start, table_bits, table_bytes}
use Rattle.settings.specs.Legal.{in_ranges, fits, below_prime, legal}
use Rattle.settings.specs.Layout.{layout_of}
use Rattle.keys.specs.Key.{key_number, key_of, index, entry, hash, list_number, rebuilt}
use Rattle.table.specs.State.{unpack, head_of, rest_of}
use Rattle.table.specs.Decode.{block_at, basic_slots, link_at, owner_at, overflow_slots, read_basic, read_overflow, decode, image, written}
use Rattle.table.specs.Follow.{step_of, content}
use Rattle.table.specs.Numbers.{capacity, slot_number}
use Rattle.table.specs.Find.{position, find_followed, find_in}
use Rattle.table.specs.Enter.{append, enter_followed, enter_in}
use Rattle.table.specs.Store.{store_overflow, store_at}
use Rattle.table.specs.Relabel.{relabel_followed, relabel_in}
use Rattle.table.specs.Delete.{handed_back, shrink_at, cannot_free, shrink, delete_followed, delete_in}
use Rattle.table.specs.New.{new_state, new_bytes}
use Rattle.table.specs.Record.{record_from, record_in}
use Rattle.table.specs.Retrieve.{retrieve_basic, retrieve_overflow, retrieve_in}
use Rattle.table.specs.Check.{state_sound, fill_zero, table_sound, mark_bytes, marks_after}
use Rattle.table.specs.Calls.{list_call, make_call, key_call, record_call, retrieve_call, check_call}

unfoldable pub computing : Unit {0}
unfolding
    bit_at field replaced put_bit put_field least_from ceil_log2 none_divides is_prime prime_above link_bits free_start_bits basic_counter_bits basic_block_bits lists
    overflow_counter_bits overflow_block_bits overflow_start table_bits table_bytes in_ranges fits below_prime legal layout_of key_number key_of index entry hash
    list_number rebuilt unpack head_of rest_of block_at basic_slots link_at owner_at overflow_slots read_basic read_overflow decode image written step_of content capacity slot_number position find_followed
    find_in append enter_followed enter_in store_overflow store_at relabel_followed relabel_in handed_back shrink_at cannot_free shrink delete_followed delete_in new_state new_bytes record_from record_in retrieve_basic retrieve_overflow retrieve_in state_sound fill_zero table_sound mark_bytes
    marks_after list_call make_call key_call record_call retrieve_call check_call
computing = tt
