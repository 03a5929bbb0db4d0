-- The places of a block's fields are within it, and so within the table.
use Rattle.std.specs.Prelude.{List, ℕ, zero, suc, ◌+◌, ◌*◌, ◌^◌, ◌≤◌, ◌<◌}
use Rattle.std.proofs.Common.{arith}
use Rattle.std.proofs.Math.Nat.{mul-le-mul_right}
use Rattle.settings.specs.Proper.{Proper}
use Rattle.settings.specs.declared.layout.Layout.{Layout}
use Rattle.table.specs.Decode.{basic_slots, overflow_slots}
use Rattle.table.specs.Table.{Table}
use Rattle.table_read.specs.Places.{Fields, BlockIn, basic_slot, overflow_slot}
use Rattle.table.specs.theory.Changes.{bits_high, basic_ends, over_ends, start_high}

-- a field that holds a number above 0 has bits
some_bits : (x n : ℕ) → 0 < x → x < 2 ^ n → 0 < n
some_bits x zero p q = absurd (omega arith)
some_bits x (suc n) p q = omega arith

module _ (g : Layout) (F : Proper g) where
  pub basic_fields : (i w : ℕ) → i < g.lists → w ≤ g.sib * g.slot → Fields g.basic i w
  basic_fields i w h l = record { near = omega (arith, basic_ends g F i h, start_high g F, bits_high g F); fits = omega (arith, F.basic_is) }

  pub over_fields : (j w : ℕ) → j < g.nob → w ≤ g.link + g.owner + g.sio * g.slot → Fields g.overflow j w
  over_fields j w h l = record { near = omega (arith, over_ends g F j h, bits_high g F); fits = omega (arith, F.overflow_is) }

  pub basic_slot_ends : (i : ℕ) → i < g.lists → (p : ℕ) → p < g.sib → basic_slot g i p + g.slot ≤ g.bits
  unfolding basic_slots basic_slot
  basic_slot_ends i h p l = omega (arith, mul-le-mul_right g.slot l, basic_ends g F i h, start_high g F, F.basic_is)

  pub overflow_slot_ends : (j : ℕ) → j < g.nob → (p : ℕ) → p < g.sio → overflow_slot g j p + g.slot ≤ g.bits
  unfolding overflow_slots overflow_slot
  overflow_slot_ends j h p l = omega (arith, mul-le-mul_right g.slot l, over_ends g F j h, F.overflow_is)

-- the blocks of a table, with w bits of link and owner
module _ (g : Layout) (t : List ℕ) (T : Table g t) (w : ℕ) where
  pub basic_in : w ≤ g.link → (i : ℕ) → i < g.lists → BlockIn t g.basic i w
  basic_in l i h =
      let F = T.proper in
      record {
        fields = basic_fields g F i w h (omega (arith, F.link_fits));
        room = omega (arith, basic_ends g F i h, start_high g F, T.room);
        some = some_bits (suc g.sib) g.basic.counter (omega arith) F.basic_holds;
        short = omega (arith, F.basic_high);
        numbers = omega (arith, F.link_high);
      }

  pub over_in : w ≤ g.link + g.owner → (j : ℕ) → j < g.nob → BlockIn t g.overflow j w
  over_in l j h =
      let F = T.proper in
      record {
        fields = over_fields g F j w h (omega arith);
        room = omega (arith, over_ends g F j h, T.room);
        some = some_bits g.sio g.overflow.counter F.sio_low F.overflow_holds;
        short = omega (arith, F.overflow_high);
        numbers = omega (arith, F.link_high, F.owner_high);
      }
