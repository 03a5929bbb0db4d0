-- Section 4 of docs/SPECIFICATION.md: the layout, as the calls compute it once from the settings.
use Rattle.settings.specs.Sizes.{bie, slot_bits, link_bits, free_start_bits, lists, basic_counter_bits, basic_block_bits, overflow_counter_bits, overflow_block_bits, overflow_start, table_bits, table_bytes}
use Rattle.settings.specs.declared.settings.Settings.{Settings}
use Rattle.settings.specs.declared.layout.Blocks.{Blocks}
use Rattle.settings.specs.declared.layout.Layout.{Layout}

-- the basic blocks stand behind the free start, the overflow blocks behind them
abbrev pub basic_blocks : Settings → Blocks
basic_blocks s = record { start = free_start_bits s; counter = basic_counter_bits s; bits = basic_block_bits s }

abbrev pub overflow_blocks : Settings → Blocks
overflow_blocks s = record { start = overflow_start s; counter = overflow_counter_bits s; bits = overflow_block_bits s }

unfoldable pub layout_of : Settings → Layout
layout_of s =
    record {
      bie = bie s;
      val = s.val;
      slot = slot_bits s;
      sib = s.sib;
      nob = s.nob;
      sio = s.sio;
      lists = lists s;
      link = link_bits s;
      owner = s.bii;
      basic = basic_blocks s;
      overflow = overflow_blocks s;
      bits = table_bits s;
      bytes = table_bytes s;
    }
