-- The layout of legal settings is proper, and widths are small; what a layout says of its settings.
use Rattle.std.specs.Prelude.{◌≡◌, ◌+◌, ◌^◌, ◌≤◌, refl}
use Rattle.std.proofs.Math.Path.{sym}
use Rattle.std.proofs.Common.{ap, arith, pow_pos, pow_mono}
use Rattle.settings.specs.Sizes.{bie, link_bits, free_start_bits, basic_counter_bits, basic_block_bits, lists, overflow_counter_bits, overflow_block_bits, overflow_start, table_bits, table_bytes}
use Rattle.settings.specs.Legal.{Ranges, Legal}
use Rattle.settings.specs.Layout.{layout_of}
use Rattle.settings.specs.Proper.{Proper}
use Rattle.settings.specs.theory.Logs.{log_holds, log_least}
use Rattle.settings.specs.declared.settings.Settings.{Settings}
use Rattle.settings.specs.declared.layout.Layout.{Layout}

pub widths_small : (s : Settings) → Ranges s
    → (link_bits s ≤ 16) × (free_start_bits s ≤ 16) × (basic_counter_bits s ≤ 9) × (overflow_counter_bits s ≤ 4)
unfolding link_bits free_start_bits basic_counter_bits overflow_counter_bits
widths_small s r = (
  log_least s.nob 16 (omega arith),
  log_least (1 + s.nob) 16 (omega arith),
  log_least (2 + s.sib) 9 (omega arith),
  log_least (1 + s.sio) 4 (omega arith),
)

pub layout_proper : (s : Settings) → Legal s → Proper (layout_of s)
unfolding layout_of link_bits free_start_bits basic_counter_bits basic_block_bits lists overflow_counter_bits overflow_block_bits overflow_start table_bits table_bytes
layout_proper s l =
    let r = l.ranges in
    let small = widths_small s r in
    record {
      slot_is = refl;
      bie_low = omega arith;
      bie_high = omega arith;
      val_high = r.val_high;
      sib_low = r.sib_low;
      sib_high = r.sib_high;
      nob_high = r.nob_high;
      sio_low = r.sio_low;
      sio_high = r.sio_high;
      lists_low = pow_pos s.bii;
      lists_high = pow_mono r.bii_high;
      link_high = small.0;
      owner_high = r.bii_high;
      free_high = small.1;
      basic_high = small.2;
      overflow_high = small.3;
      link_fits = l.link_fits;
      basic_is = refl;
      overflow_is = refl;
      start_is = refl;
      bits_is = refl;
      bytes_is = refl;
      bytes_high = l.bytes_high;
      basic_holds = omega (arith, log_holds (2 + s.sib));
      overflow_holds = omega (arith, log_holds (1 + s.sio));
      link_holds = log_holds s.nob;
      free_holds = omega (arith, log_holds (1 + s.nob));
      owner_holds = refl;
    }

-- as many lists as index bits tell, and entries of bie bits
module _ (s : Settings) (g : Layout) (e : layout_of s ≡ g) where
  pub lists_are : g.lists ≡ 2 ^ s.bii
  unfolding layout_of lists
  lists_are = sym (ap (λ (x : Layout). x.lists) e)

  pub bie_is : g.bie ≡ bie s
  unfolding layout_of
  bie_is = sym (ap (λ (x : Layout). x.bie) e)
