-- Zeroed bytes with every overflow block linked as a free one hold the new table.
use mathlib.Core.Path.{◌≡◌, refl, sym, ap, ◌∙◌}
use mathlib.Core.Logic.{inl, inr}
use mathlib.Core.List.{List, [], ◌∷◌}
use Prim.Native.Nat.{ℕ, zero, suc, ◌+◌, ◌*◌, ◌/◌, ◌^◌, ◌≤◌, ◌<◌}
use native.Mathlib.Omega.{arith}
use native.Mathlib.Decide.{dec_le}
use lib.ListN.{length, drop, replicate, length-append, length-replicate, length-drop, get_or-append}
use lib.Seq.{drop-nil}
use lib.Dec.{eqb}
use borrow.Author.Tests.{eqb-false}
use Rattle.laws.specs.Cases.{cases}
use Rattle.laws.specs.Lists.{replicate_at}
use Rattle.bits.specs.Bytes.{Bytes}
use Rattle.bits.specs.Field.{field}
use Rattle.bits.specs.Put.{put_field}
use Rattle.bits.specs.theory.Puts.{put_length, put_same, put_out}
use Rattle.bits.specs.theory.Fields.{field_none}
use Rattle.settings.specs.Proper.{Proper}
use Rattle.settings.specs.declared.layout.Layout.{Layout}
use Rattle.table.specs.Arrays.{tabulate, padded, cleared}
use Rattle.table.specs.State.{empty_basic, empty_block, rest_bits}
use Rattle.table.specs.Updates.{with_link}
use Rattle.table.specs.Decode.{block_at, basic_slots, link_at, owner_at, overflow_slots, read_basic, read_overflow, decode, written}
use Rattle.table.specs.New.{new_overflow, new_state, new_bytes}
use Rattle.table.specs.Table.{Only}
use Rattle.table_make.specs.NewSteps.{linked}
use Rattle.table.specs.theory.Arrays.{tab_ext}
use Rattle.table.specs.theory.Decode.{put_only, only_refl, only_trans, only_wide, only_field, written_of}
use Rattle.table.specs.theory.Changes.{basic_ends, over_ends, over_low, over_apart, start_low, start_high, slot_ends, same_basic, same_over}

-- ---- cleared bytes

pub zero_length : (n : ℕ) (t : List ℕ) → n ≤ length t → length (cleared n t) ≡ length t
zero_length n t h = simp (length-append, length-replicate, length-drop) (omega arith)

pub zero_bytes : (n : ℕ) (t : List ℕ) → Bytes t → Bytes (cleared n t)
zero_bytes zero t b i = b i
zero_bytes (suc n) t b zero = omega arith
zero_bytes (suc n) [] b (suc i) = rw (drop-nil n) at (zero_bytes n [] b i)
zero_bytes (suc n) (x ∷ t) b (suc i) = zero_bytes n t (λ j. b (suc j)) i

pub zero_field : (n : ℕ) (t : List ℕ) (o m : ℕ) → o + m ≤ 8 * n → field (cleared n t) o m ≡ 0
zero_field n t o m h =
    field_none (cleared n t) o m (λ i a b.
    get_or-append (replicate n 0) (drop n t) 0 (i / 8) (omega (arith, length-replicate {A = ℕ} n 0)) ∙ replicate_at {A = ℕ} n (i / 8) 0)

padded_none : (n : ℕ) → padded n [] ≡ tabulate n (λ k. 0)
padded_none zero = refl
padded_none (suc n) = ap (0 ∷◌) (padded_none n)

module _ (g : Layout) (F : Proper g) where
  -- ---- one link

  link_low : (j : ℕ) → block_at g.overflow j ≤ link_at g j
  unfolding link_at
  link_low j = omega arith

  pub link_ends : (j : ℕ) → link_at g j + g.link ≤ block_at g.overflow j + g.overflow.bits
  unfolding link_at
  link_ends j = omega (arith, F.overflow_is)

  pub link_only : (t : List ℕ) (j v : ℕ) → j < g.nob → g.bits ≤ 8 * length t
      → Only t (put_field t (link_at g j) g.link v) (block_at g.overflow j) g.overflow.bits
  link_only t j v h l =
      only_wide t (put_field t (link_at g j) g.link v) (link_at g j) g.link (block_at g.overflow j) g.overflow.bits
      (put_only t (link_at g j) g.link v (omega (arith, link_ends j, over_ends g F j h)))
      (link_low j)
      (link_ends j)

  pub read_link : (t : List ℕ) (j v : ℕ) → j < g.nob → g.bits ≤ 8 * length t → v < 2 ^ g.link
      → read_overflow g (put_field t (link_at g j) g.link v) j ≡ with_link v (read_overflow g t j)
  unfolding read_overflow link_at owner_at overflow_slots
  read_link t j v h l f =
      let at = block_at g.overflow j + g.overflow.counter in
      let e : at + g.link ≤ 8 * length t = omega (arith, F.overflow_is, over_ends g F j h) in
      λ k. record {
        counter = put_out t at g.link v (block_at g.overflow j) g.overflow.counter e (inl (omega arith)) k;
        link = put_same t at g.link v e f k;
        owner = put_out t at g.link v (block_at g.overflow j + (g.overflow.counter + g.link)) g.owner e (inr (omega arith)) k;
        slots =
            tab_ext g.sio (λ q. field t (overflow_slots g j + q * g.slot) g.slot) (λ q. field (put_field t at g.link v) (overflow_slots g j + q * g.slot) g.slot)
            (λ q m. put_out t at g.link v (overflow_slots g j + q * g.slot) g.slot e (inr (omega arith))) k;
      }

  -- ---- the chain

  -- the next block's number, or its own, fits a link: both are below nob
  pub new_link_fits : (j : ℕ) → j < g.nob → (new_overflow g j).link < 2 ^ g.link
  new_link_fits j h =
      let l = F.link_holds in
      cases (eqb (suc j) g.nob)
      (λ e. rw e (omega arith))
      (λ e. let ne = eqb-false (suc j) g.nob e in rw e (omega arith))

  pub linked_length : (n : ℕ) (t : List ℕ) → length (linked g n t) ≡ length t
  unfolding linked
  linked_length zero t = refl
  linked_length (suc n) t = put_length (linked g n t) (link_at g n) g.link (new_overflow g n).link ∙ linked_length n t

  module _ (t : List ℕ) (room : g.bits ≤ 8 * length t) where
    one_step : (n : ℕ) → n < g.nob → Only (linked g n t) (linked g (suc n) t) (block_at g.overflow n) g.overflow.bits
    unfolding linked
    one_step n h = link_only (linked g n t) n (new_overflow g n).link h (omega (arith, room, linked_length n t))

    linked_only : (n : ℕ) → n ≤ g.nob → Only t (linked g n t) g.overflow.start (g.nob * g.overflow.bits)
    unfolding linked
    linked_only zero h = only_refl t g.overflow.start (g.nob * g.overflow.bits)
    linked_only (suc n) h =
        only_trans t (linked g n t) (linked g (suc n) t) g.overflow.start (g.nob * g.overflow.bits)
        (linked_only n (omega arith))
        (only_wide (linked g n t) (linked g (suc n) t) (block_at g.overflow n) g.overflow.bits g.overflow.start (g.nob * g.overflow.bits)
        (one_step n (omega arith))
        (over_low g F n)
        (omega (arith, over_ends g F n (omega arith), F.bits_is)))

    -- blocks that are not reached yet, and those behind
    linked_rest : (n j : ℕ) → n ≤ j → n ≤ g.nob → read_overflow g (linked g n t) j ≡ read_overflow g t j
    unfolding linked
    linked_rest zero j h l = refl
    linked_rest (suc n) j h l =
        same_over g F (linked g n t) (linked g (suc n) t) (block_at g.overflow n) g.overflow.bits j (one_step n (omega arith)) (inr (over_apart g F n j (omega arith)))
        ∙ linked_rest n j (omega arith) (omega arith)

    linked_read : (n j : ℕ) → j < n → n ≤ g.nob
        → read_overflow g (linked g n t) j ≡ with_link (new_overflow g j).link (read_overflow g t j)
    unfolding linked
    linked_read zero j h l = absurd (omega arith)
    linked_read (suc n) j h l = pick (λ m. linked_read n j m (omega arith)) (dec_le n j)
      where
        pick : (j < n → read_overflow g (linked g n t) j ≡ with_link (new_overflow g j).link (read_overflow g t j))
            → Dec (n ≤ j) → read_overflow g (linked g (suc n) t) j ≡ with_link (new_overflow g j).link (read_overflow g t j)
        pick ih (yes m) =
            let e : j ≡ n = omega arith in
            rw e
            (read_link (linked g n t) n (new_overflow g n).link (omega arith) (omega (arith, room, linked_length n t)) (new_link_fits n (omega arith))
            ∙ ap (with_link (new_overflow g n).link) (linked_rest n n (omega arith) (omega arith)))
        pick ih (no m) =
            same_over g F (linked g n t) (linked g (suc n) t) (block_at g.overflow n) g.overflow.bits j (one_step n (omega arith)) (inl (over_apart g F j n (omega arith)))
            ∙ ih (omega arith)

  -- ---- the new table

  fits_bytes : g.bits ≤ 8 * g.bytes
  fits_bytes = omega (arith, F.bytes_is)

  zero_basic : (t : List ℕ) (i : ℕ) → i < g.lists → read_basic g (cleared g.bytes t) i ≡ empty_basic
  unfolding read_basic basic_slots
  zero_basic t i h =
      let a = basic_ends g F i h in
      let b = F.basic_is in
      let d = F.link_fits in
      let e = start_high g F in
      let f = fits_bytes in
      λ k. record {
        counter = zero_field g.bytes t (block_at g.basic i) g.basic.counter (omega arith) k;
        head = zero_field g.bytes t (block_at g.basic i + g.basic.counter) g.link (omega arith) k;
        rest = zero_field g.bytes t (block_at g.basic i + g.basic.counter + g.link) (rest_bits g) (omega arith) k;
      }

  zero_overflow : (t : List ℕ) (j : ℕ) → j < g.nob → read_overflow g (cleared g.bytes t) j ≡ empty_block g 0 0
  unfolding read_overflow link_at owner_at
  zero_overflow t j h =
      let a = over_ends g F j h in
      let b = F.overflow_is in
      let f = fits_bytes in
      λ k. record {
        counter = zero_field g.bytes t (block_at g.overflow j) g.overflow.counter (omega arith) k;
        link = zero_field g.bytes t (block_at g.overflow j + g.overflow.counter) g.link (omega arith) k;
        owner = zero_field g.bytes t (block_at g.overflow j + (g.overflow.counter + g.link)) g.owner (omega arith) k;
        slots =
            (tab_ext g.sio (λ q. 0) (λ q. field (cleared g.bytes t) (overflow_slots g j + q * g.slot) g.slot)
            (λ q m. zero_field g.bytes t (overflow_slots g j + q * g.slot) g.slot (omega (arith, slot_ends g F j q m)))
            ∙ sym (padded_none g.sio)) k;
      }

  module _ (t : List ℕ) (long : g.bytes ≤ length t) where
    new_room : g.bits ≤ 8 * length (cleared g.bytes t)
    new_room = omega (arith, long, fits_bytes, zero_length g.bytes t long)

    new_decode : decode g (linked g g.nob (cleared g.bytes t)) ≡ new_state g
    unfolding decode new_state
    new_decode =
        let z = cleared g.bytes t in
        let u = linked g g.nob z in
        let o : Only z u g.overflow.start (g.nob * g.overflow.bits) = linked_only z new_room g.nob (omega arith) in
        λ k. record {
          free =
              (only_field z u g.overflow.start (g.nob * g.overflow.bits) 0 g.basic.start o (inl (omega (arith, start_low g F)))
              ∙ zero_field g.bytes t 0 g.basic.start (omega (arith, start_low g F, start_high g F, fits_bytes))) k;
          basic =
              tab_ext g.lists (λ i. empty_basic) (read_basic g u)
              (λ i h. same_basic g F z u g.overflow.start (g.nob * g.overflow.bits) i o (inl (basic_ends g F i h)) ∙ zero_basic t i h) k;
          overflow =
              tab_ext g.nob (new_overflow g) (read_overflow g u)
              (λ j h. linked_read z new_room g.nob j h (omega arith)
              ∙ ap (with_link (new_overflow g j).link) (zero_overflow t j h)) k;
        }

    pub new_bytes_lem : Bytes t → linked g g.nob (cleared g.bytes t) ≡ new_bytes g t
    unfolding new_bytes
    new_bytes_lem b =
        let z = cleared g.bytes t in
        let u = linked g g.nob z in
        let o : Only z u g.overflow.start (g.nob * g.overflow.bits) = linked_only z new_room g.nob (omega arith) in
        written_of g F z u (zero_bytes g.bytes t b) new_room
        (only_wide z u g.overflow.start (g.nob * g.overflow.bits) 0 g.bits o (omega arith) (omega (arith, F.bits_is)))
        ∙ ap (written g z) new_decode
