-- What a change of bits within one block, or of the free start, does to the decoded state.
use Rattle.std.specs.Prelude.{◌≡◌, ◌≢◌, ◌⊎◌, List, ℕ, ◌+◌, ◌*◌, ◌≤◌, ◌<◌, set}
use Rattle.std.proofs.Math.Logic.{inl, inr}
use Rattle.std.proofs.Common.{⊎_elim}
use native.Mathlib.Omega.{arith}
use Rattle.std.proofs.Math.Nat.{mul-le-mul_right}
use Rattle.std.proofs.Math.Decide.{dec_le}
use Rattle.settings.specs.Legal.{most_bits}
use Rattle.bits.specs.Field.{field}
use Rattle.settings.specs.Proper.{Proper}
use Rattle.settings.specs.declared.layout.Layout.{Layout}
use Rattle.table.specs.State.{mk_state, basic_at, overflow_at, rest_bits, empty_basic, absent_block}
use Rattle.table.specs.Decode.{block_at, basic_slots, link_at, owner_at, overflow_slots, read_basic, read_overflow, decode}
use Rattle.table.specs.Table.{Only}
use Rattle.table.specs.theory.Arrays.{get_or_tab, tab_ext, tab_set}
use Rattle.table.specs.theory.Decode.{only_field}

module _ (g : Layout) (F : Proper g) where
  -- places
  pub basic_ends : (i : ℕ) → i < g.lists → block_at g.basic i + g.basic.bits ≤ g.overflow.start
  unfolding block_at
  basic_ends i h = omega (arith, mul-le-mul_right g.basic.bits h, F.start_is)

  pub basic_low : (i : ℕ) → g.basic.start ≤ block_at g.basic i
  unfolding block_at
  basic_low i = omega arith

  pub basic_apart : (i k : ℕ) → i < k → block_at g.basic i + g.basic.bits ≤ block_at g.basic k
  unfolding block_at
  basic_apart i k h = omega (arith, mul-le-mul_right g.basic.bits h)

  pub over_ends : (j : ℕ) → j < g.nob → block_at g.overflow j + g.overflow.bits ≤ g.bits
  unfolding block_at
  over_ends j h = omega (arith, mul-le-mul_right g.overflow.bits h, F.bits_is)

  pub over_low : (j : ℕ) → g.overflow.start ≤ block_at g.overflow j
  unfolding block_at
  over_low j = omega arith

  pub start_low : g.basic.start ≤ g.overflow.start
  start_low = omega (arith, F.start_is)

  pub start_high : g.overflow.start ≤ g.bits
  start_high = omega (arith, F.bits_is)

  pub over_apart : (j k : ℕ) → j < k → block_at g.overflow j + g.overflow.bits ≤ block_at g.overflow k
  unfolding block_at
  over_apart j k h = omega (arith, mul-le-mul_right g.overflow.bits h)

  -- no block ends past the largest table
  pub bits_high : g.bits ≤ most_bits
  bits_high = omega (arith, F.bytes_is, F.bytes_high)

  -- a block is as before where nothing of it changed
  pub same_basic : (t u : List ℕ) (a n i : ℕ) → Only t u a n → (block_at g.basic i + g.basic.bits ≤ a) ⊎ (a + n ≤ block_at g.basic i) → read_basic g u i ≡ read_basic g t i
  unfolding read_basic basic_slots
  same_basic t u a n i o d =
      let s = F.basic_is in
      let f = F.link_fits in
      λ k. record {
        counter = only_field t u a n (block_at g.basic i) g.basic.counter o (⊎_elim (λ x. inl (omega arith)) (λ x. inr (omega arith)) d) k;
        head = only_field t u a n (block_at g.basic i + g.basic.counter) g.link o (⊎_elim (λ x. inl (omega arith)) (λ x. inr (omega arith)) d) k;
        rest = only_field t u a n (block_at g.basic i + g.basic.counter + g.link) (rest_bits g) o (⊎_elim (λ x. inl (omega arith)) (λ x. inr (omega arith)) d) k;
      }

  pub slot_ends : (j k : ℕ) → k < g.sio → overflow_slots g j + k * g.slot + g.slot ≤ block_at g.overflow j + g.overflow.bits
  unfolding overflow_slots
  slot_ends j k h = omega (arith, mul-le-mul_right g.slot h, F.overflow_is)

  pub slot_low : (j k : ℕ) → block_at g.overflow j ≤ overflow_slots g j + k * g.slot
  unfolding overflow_slots
  slot_low j k = omega arith

  pub same_over : (t u : List ℕ) (a n j : ℕ) → Only t u a n → (block_at g.overflow j + g.overflow.bits ≤ a) ⊎ (a + n ≤ block_at g.overflow j) → read_overflow g u j ≡ read_overflow g t j
  unfolding read_overflow link_at owner_at
  same_over t u a n j o d =
      let s = F.overflow_is in
      λ k. record {
        counter = only_field t u a n (block_at g.overflow j) g.overflow.counter o (⊎_elim (λ x. inl (omega arith)) (λ x. inr (omega arith)) d) k;
        link = only_field t u a n (block_at g.overflow j + g.overflow.counter) g.link o (⊎_elim (λ x. inl (omega arith)) (λ x. inr (omega arith)) d) k;
        owner = only_field t u a n (block_at g.overflow j + (g.overflow.counter + g.link)) g.owner o (⊎_elim (λ x. inl (omega arith)) (λ x. inr (omega arith)) d) k;
        slots =
            tab_ext g.sio (λ q. field t (overflow_slots g j + q * g.slot) g.slot) (λ q. field u (overflow_slots g j + q * g.slot) g.slot)
            (λ q l. only_field t u a n (overflow_slots g j + q * g.slot) g.slot o
            (⊎_elim (λ x. inl (omega (arith, slot_ends j q l))) (λ x. inr (omega (arith, slot_low j q))) d)) k;
      }

  apart_if : (base : ℕ → ℕ) (size : ℕ) → ((i k : ℕ) → i < k → base i + size ≤ base k) → (i k : ℕ) → k ≢ i → (base k + size ≤ base i) ⊎ (base i + size ≤ base k)
  apart_if base size f i k ne = pick (dec_le k i)
    where
      pick : Dec (k ≤ i) → (base k + size ≤ base i) ⊎ (base i + size ≤ base k)
      pick (yes l) = inl (f k i (omega arith))
      pick (no l) = inr (f i k (omega arith))

  pub decode_free : (t u : List ℕ) → Only t u 0 g.basic.start → decode g u ≡ mk_state (field u 0 g.basic.start) (decode g t).basic (decode g t).overflow
  unfolding decode
  decode_free t u o =
      λ k. record {
        free = field u 0 g.basic.start;
        basic = tab_ext g.lists (read_basic g t) (read_basic g u) (λ i l. same_basic t u 0 g.basic.start i o (inr (omega (arith, basic_low i)))) k;
        overflow = tab_ext g.nob (read_overflow g t) (read_overflow g u) (λ j l. same_over t u 0 g.basic.start j o (inr (omega (arith, over_low j, start_low)))) k;
      }

  pub decode_basic : (t u : List ℕ) (i : ℕ) → i < g.lists → Only t u (block_at g.basic i) g.basic.bits
      → decode g u ≡ mk_state (decode g t).free (set (decode g t).basic i (read_basic g u i)) (decode g t).overflow
  unfolding decode
  decode_basic t u i h o =
      λ k. record {
        free = only_field t u (block_at g.basic i) g.basic.bits 0 g.basic.start o (inl (omega (arith, basic_low i))) k;
        basic = tab_set g.lists (read_basic g t) (read_basic g u) i (λ j l ne. same_basic t u (block_at g.basic i) g.basic.bits j o (apart_if (block_at g.basic) g.basic.bits basic_apart i j ne)) k;
        overflow = tab_ext g.nob (read_overflow g t) (read_overflow g u) (λ j l. same_over t u (block_at g.basic i) g.basic.bits j o (inr (omega (arith, over_low j, basic_ends i h)))) k;
      }

  pub decode_over : (t u : List ℕ) (j : ℕ) → Only t u (block_at g.overflow j) g.overflow.bits
      → decode g u ≡ mk_state (decode g t).free (decode g t).basic (set (decode g t).overflow j (read_overflow g u j))
  unfolding decode
  decode_over t u j o =
      λ k. record {
        free = only_field t u (block_at g.overflow j) g.overflow.bits 0 g.basic.start o (inl (omega (arith, over_low j, start_low))) k;
        basic = tab_ext g.lists (read_basic g t) (read_basic g u) (λ i l. same_basic t u (block_at g.overflow j) g.overflow.bits i o (inl (omega (arith, over_low j, basic_ends i l)))) k;
        overflow = tab_set g.nob (read_overflow g t) (read_overflow g u) j (λ i l ne. same_over t u (block_at g.overflow j) g.overflow.bits i o (apart_if (block_at g.overflow) g.overflow.bits over_apart j i ne)) k;
      }

  -- what stands at a number in range
  pub at_over : (t : List ℕ) (j : ℕ) → j < g.nob → overflow_at (decode g t).overflow j ≡ read_overflow g t j
  unfolding decode
  at_over t j h = get_or_tab g.nob (read_overflow g t) j absent_block h

  pub at_basic : (t : List ℕ) (i : ℕ) → i < g.lists → basic_at (decode g t).basic i ≡ read_basic g t i
  unfolding decode
  at_basic t i h = get_or_tab g.lists (read_basic g t) i empty_basic h
