-- Clauses 2.1, 2.3 and 2.5: every range and rule. Refusal 1 is given exactly if one is broken.
use Rattle.std.specs.Prelude.{ℕ, ◌*◌, ◌<◌, ◌≤◌, Bool, ◌&&◌, nat_le, nat_lt}
use Rattle.settings.specs.Prime.{prime_above}
use Rattle.settings.specs.Sizes.{slot_bits, link_bits, table_bytes}
use Rattle.settings.specs.declared.settings.Settings.{Settings}

-- clause 2.1, but for a and b
unfoldable pub in_ranges : Settings → Bool
in_ranges s =
    nat_le 2 s.w && nat_le s.w 128 && nat_le s.bii 16 && nat_lt s.bii s.w && nat_le 1 s.sib && nat_le s.sib 255
    && nat_le s.nob 65535 && nat_le 1 s.sio && nat_le s.sio 15 && nat_le s.val 32

-- clause 2.3: the largest size of a table
abbrev pub most_bytes : ℕ
most_bytes = 16777216

-- so that a place in it is below this number of bits
abbrev pub most_bits : ℕ
most_bits = 8 * most_bytes

-- clause 2.3: a link fits in the slots, and the table is not too large
unfoldable pub fits : Settings → Bool
fits s = nat_le (link_bits s) (s.sib * slot_bits s) && nat_le (table_bytes s) most_bytes

-- clause 2.1, a and b
unfoldable pub below_prime : Settings → Bool
below_prime s = nat_le 1 s.a && nat_lt s.a (prime_above s.bii) && nat_le 1 s.b && nat_lt s.b (prime_above s.bii)

unfoldable pub legal : Settings → Bool
legal s = in_ranges s && (fits s && below_prime s)

-- the same as facts, for the functions that are called with such settings only
pub record Ranges (s : Settings) : Type 0 where
  pub w_low : 2 ≤ s.w
  pub w_high : s.w ≤ 128
  pub bii_high : s.bii ≤ 16
  pub bii_below : s.bii < s.w
  pub sib_low : 1 ≤ s.sib
  pub sib_high : s.sib ≤ 255
  pub nob_high : s.nob ≤ 65535
  pub sio_low : 1 ≤ s.sio
  pub sio_high : s.sio ≤ 15
  pub val_high : s.val ≤ 32

pub record Legal (s : Settings) : Type 0 where
  pub ranges : Ranges s
  pub link_fits : link_bits s ≤ s.sib * slot_bits s
  pub bytes_high : table_bytes s ≤ most_bytes
  pub a_low : 1 ≤ s.a
  pub a_below : s.a < prime_above s.bii
  pub b_low : 1 ≤ s.b
  pub b_below : s.b < prime_above s.bii
