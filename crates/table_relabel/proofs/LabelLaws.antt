-- A label stored alone is the slot stored whole, since the entry stands there already.
use Rattle.std.specs.Prelude.{Ok, Err}
use mathlib.Core.Path.{◌≡◌, refl, sym, ap, ap₂, ◌∙◌}
use mathlib.Core.List.{List, [], ◌∷◌, ◌++◌}
use Prim.Native.Nat.{ℕ, ◌+◌, ◌-◌, ◌*◌, ◌^◌, ◌≤◌, ◌<◌}
use native.Mathlib.Omega.{arith}
use native.Mathlib.Decide.{dec_le}
use lib.ListN.{length, get_or, take, get_or-append}
use lib.Seq.{get_or-append-add, get_or-take}
use lib.Pow.{high, low}
use borrow.Author.Tests.{lt-ltb, le-ltb}
use Rattle.bits.specs.Bytes.{Bytes}
use Rattle.bits.specs.Field.{field}
use Rattle.bits.specs.Put.{put_field}
use Rattle.bits.specs.Within.{Within}
use Rattle.bits.specs.theory.Fields.{field_lt}
use Rattle.bits.specs.theory.Puts.{put_cat, put_own}
use Rattle.settings.specs.declared.layout.Layout.{Layout}
use Rattle.keys.specs.declared.BlockNumber.{BlockNumber}
use Rattle.table.specs.declared.damage.Damage.{Damage}
use Rattle.table.specs.State.{State, mk_state, Overflow, basic_at, overflow_at, unpack, own_slots, entry_of, slot_of}
use Rattle.table.specs.Updates.{with_slot, over_overflow}
use Rattle.table.specs.Decode.{basic_slots, decode}
use Rattle.table.specs.Table.{Table}
use Rattle.table.specs.Follow.{last_of, follow, gather, own_blocks}
use Rattle.table.specs.Store.{store_displaced, store_at}
use Rattle.table_read.specs.Places.{basic_slot, overflow_slot}
use Rattle.table_read.specs.Steps.{restored_bytes, displaced_run, last_in, last_from, last_as}
use Rattle.table_read.specs.BlockSlots.{blocks_from, block_slot_in, Reaches}
use Rattle.table_read.specs.declared.lists.BlockSlot.{BlockSlot}
use Rattle.table_read.specs.declared.slots.Slots.{Slots}
use Rattle.table_read.specs.theory.Lasts.{EndsAt, ends_at, no_end}
use Rattle.table_read.specs.theory.Places.{basic_slot_ends, overflow_slot_ends}
use Rattle.table_read.specs.theory.Reads.{slot_entry, entry_in, displaced_slots_in, link_lt, sized, unpack_length}
use Rattle.table_read.specs.theory.Walks.{last_low, content_short}
use Rattle.table_read.specs.theory.BlockSlots.{Chained, content_chained, long_full, long_ends, long_blocks, long_own}
use Rattle.table_store.specs.Stores.{StoredOver, link_put}
use Rattle.table_store.specs.Places.{Placed}
use Rattle.table_store.specs.theory.StoreLaws.{slot_lt, slot_put_lem, over_behind, stored_as, stored_basic_slot, stored_overflow_slot}
use Rattle.table_store.specs.theory.PlaceLaws.{InBlocks, in_blocks, overflow_slot_is, basic_slot_is, short_place, long_place, stored_displaced, stored_displaced_same}
use Rattle.table_relabel.specs.Relabels.{Relabellable, relabelled_in, relabelled, Relabelled}

-- ---- on bytes

pub label_put : (t : List ℕ) (at bie val e label : ℕ) → field t at bie ≡ e → label < 2 ^ val
    → put_field t (at + bie) val label ≡ put_field t at (bie + val) (e * 2 ^ val + label)
label_put t at bie val e label q h =
    sym
    (put_cat t at bie val (e * 2 ^ val + label)
    ∙ ap₂ (λ (x y : ℕ). put_field (put_field t at bie x) (at + bie) val y) (high e val h) (low e val h)
    ∙ ap (λ (u : List ℕ). put_field u (at + bie) val label) (ap (put_field t at bie) (sym q) ∙ put_own t at bie))

-- the same over displaced bits
over_label : (m bie val n : ℕ) (t u : List ℕ) (base h at e label r : ℕ) → n ≡ bie + val → field (put_field t base m h) at bie ≡ e → label < 2 ^ val
    → StoredOver m val t u base h (at + bie) label r → StoredOver m n t u base h at (e * 2 ^ val + label) r
over_label m bie val n t u base h at e label r en q hl P =
    let c = label_put (put_field t base m h) at bie val e label q hl ∙ ap (λ (k : ℕ). put_field (put_field t base m h) at k (e * 2 ^ val + label)) (sym en) in
    record { head = P.head ∙ ap (λ (s : List ℕ). field s base m) c; bytes = P.bytes ∙ ap (λ (s : List ℕ). put_field s base m (field t base m)) c }

module _ {g : Layout} {t : List ℕ} {i p label : ℕ} (R : Relabellable g t i p label) where
  abbrev st : State
  st = decode g t

  abbrev T : Table g t
  T = R.table

  abbrev P : Placed g (decode g t) i p
  P = R.placed

  abbrev hi : i < g.lists
  hi = R.list

  abbrev hl : label < 2 ^ g.val
  hl = R.fits

  -- a slot with the entry that stands at bit `at` of s
  abbrev slot_from : List ℕ → ℕ → ℕ
  slot_from s at = slot_of g (field s at g.bie) label

  slot_from_lt : (s : List ℕ) (at : ℕ) → slot_from s at < 2 ^ g.slot
  slot_from_lt s at = slot_lt g T.proper (field s at g.bie) label (record { entry_fits = field_lt s at g.bie; label_fits = hl })

  -- a label in the basic block is within the table
  pub label_ends : (z : ℕ) → z ≡ basic_slot g i p + g.bie → p < g.sib → z + g.val ≤ g.bits
  label_ends z e k = omega (arith, basic_slot_ends g T.proper i hi p k, T.proper.slot_is)

  pub label_within : (z : ℕ) → z ≡ basic_slot g i p + g.bie → p < g.sib → Within t z g.val
  label_within z e k = record { ends = omega (arith, label_ends z e k, T.room); width = omega (arith, T.proper.val_high) }

  -- ---- a list without overflow blocks

  module _ (h : (basic_at st.basic i).counter ≤ g.sib) where
    abbrev count : ℕ
    count = (basic_at st.basic i).counter

    abbrev at : ℕ
    at = basic_slot g i p

    low_place : p < g.sib
    low_place = omega (arith, short_place g st i p P h)

    short_entry : entry_of g (get_or (take count (own_slots g (basic_at st.basic i))) p 0) ≡ field t at g.bie
    short_entry =
        ap (entry_of g) (get_or-take count (own_slots g (basic_at st.basic i)) p 0 (short_place g st i p P h) ∙ basic_slot_is g t T i p hi low_place)
        ∙ slot_entry g T.proper t at

    pub relabelled_short : (z : ℕ) → z ≡ basic_slot g i p + g.bie → (u : List ℕ) → u ≡ put_field t z g.val label → Relabelled g t u i p label
    unfolding relabelled store_at
    relabelled_short z ez u eu =
        stored_as (relabelled g st i p label)
        (stored_basic_slot g t T i hi p (slot_from t at) low_place (slot_from_lt t at) u
        (slot_put_lem g T.proper t u at (slot_from t at)
        (eu ∙ ap (λ (n : ℕ). put_field t n g.val label) ez ∙ label_put t at g.bie g.val (field t at g.bie) label refl hl)))
        (sym
        (ap (relabelled_in g st i p label) (content_short g st i h)
        ∙ ap (λ (e : ℕ). store_at g st i [] p (slot_of g e label)) short_entry))

  -- a place behind the basic block is that of a list with overflow blocks
  pub long_there : g.sib ≤ p → g.sib < (basic_at st.basic i).counter
  long_there k = pick (dec_le (basic_at st.basic i).counter g.sib)
    where
      pick : Dec ((basic_at st.basic i).counter ≤ g.sib) → g.sib < (basic_at st.basic i).counter
      pick (yes h) = absurd (omega (arith, short_place g st i p P h))
      pick (no h) = omega arith

  -- ---- a list with overflow blocks

  module _ (h : g.sib < (basic_at st.basic i).counter) where
    abbrev first : ℕ
    first = (basic_at st.basic i).head

    abbrev blocks : Chained g st.overflow first
    blocks = long_blocks g st i P.followed P.is h

    abbrev others : List ℕ
    others = blocks.others

    abbrev pub last : ℕ
    last = last_of first others

    abbrev link : ℕ
    link = (overflow_at st.overflow last).link

    abbrev body : List ℕ
    body = unpack g link (basic_at st.basic i).rest

    abbrev tail : List ℕ
    tail = gather g st.overflow (first ∷ others)

    long_is : relabelled g st i p label ≡ store_at g st i (first ∷ others) p (slot_of g (entry_of g (get_or (body ++ tail) p 0)) label)
    unfolding relabelled
    long_is = ap (relabelled_in g st i p label) (content_chained g st i (long_full g st i P.followed P.is h) blocks (long_own g st i P.followed P.is h))

    pub last_below : last < g.nob
    last_below = last_low g st.overflow blocks.chain

    pub ends_there : (b : ℕ) → b ≡ first → last_from g i g.nob st.overflow b ≡ last
    unfolding last_from
    ends_there b e =
        ap (λ (x : ℕ). last_in g (own_blocks i st.overflow (follow g g.nob st.overflow x))) e
        ∙ rw (blocks.found, long_own g st i P.followed P.is h)

    -- the list ends in a block, since it was followed
    pub last_found : (b : ℕ) → b ≡ first → (l : BlockNumber) → last_as g (last_from g i g.nob st.overflow b) ≡ Ok l → EndsAt g last l
    last_found b e l q =
        let f = ends_at g (last_from g i g.nob st.overflow b) l q in
        record { is = f.is ∙ ends_there b e; low = f.low }

    pub no_damage : (b : ℕ) → b ≡ first → {d : Damage} → last_as g (last_from g i g.nob st.overflow b) ≡ Err d → ⊥
    no_damage b e q = omega (arith, no_end g (last_from g i g.nob st.overflow b) q, ends_there b e, last_below)

    -- in the basic block
    module _ (k : p < g.sib) where
      abbrev base : ℕ
      base = basic_slots g i

      abbrev whole : List ℕ
      whole = put_field t base g.link link

      abbrev there : ℕ
      there = basic_slot g i p

      link_fits : link < 2 ^ g.link
      link_fits = link_lt g t T last last_below

      first_entry : entry_of g (get_or (body ++ tail) p 0) ≡ field whole there g.bie
      unfolding restored_bytes displaced_run basic_slot
      first_entry =
          ap (entry_of g)
          (get_or-append body tail 0 p (omega (arith, unpack_length g link (basic_at st.basic i).rest))
          ∙ ap (λ (xs : List ℕ). get_or xs p 0) (sym (displaced_slots_in g t T i link hi link_fits)))
          ∙ entry_in g t (displaced_run g i link) T.proper p k

      first_is : relabelled g st i p label ≡ store_displaced g i last p (slot_from whole there) st
      unfolding store_at
      first_is = long_is ∙ rw (lt-ltb p g.sib k) (ap (λ (e : ℕ). store_displaced g i last p (slot_of g e label) st) first_entry)

      over : (u : List ℕ) (r : ℕ) → StoredOver g.link g.val t u base link (there + g.bie) label r
          → StoredOver g.link g.slot t u base link there (slot_from whole there) r
      over u r S = over_label g.link g.bie g.val g.slot t u base link there (field whole there g.bie) label r T.proper.slot_is refl hl S

      -- behind the displaced bits
      pub relabelled_behind : Bytes t → basic_slots g i + g.link ≤ basic_slot g i p + g.bie → (u : List ℕ)
          → u ≡ put_field t (basic_slot g i p + g.bie) g.val label → Relabelled g t u i p label
      relabelled_behind y l u eu =
          stored_as (relabelled g st i p label)
          (stored_displaced_same g t T i last p link (slot_from whole there) base there hi last_below k (slot_from_lt whole there) refl refl refl u link
          (over u link (over_behind g.link g.val t u base link (there + g.bie) label y l (label_within (there + g.bie) refl k).ends link_fits eu)) refl)
          (sym first_is)

      -- under them: l is the last block, whose link v counts as them, and what they are then, r, goes there
      pub relabelled_under : (l v : ℕ) (b : Slots) (z n x r : ℕ) (a u : List ℕ) → l ≡ last → v ≡ (overflow_at st.overflow l).link
          → b ≡ displaced_run g i v → z ≡ basic_slot g i p + g.bie → n ≡ g.val → x ≡ label
          → StoredOver b.displaced n t a b.start b.value z x r → u ≡ link_put g a l r → Relabelled g t u i p label
      unfolding displaced_run
      relabelled_under l v b z n x r a u el ev eb ez en ex S eu =
          let ew : b.value ≡ link = ap (λ (x : Slots). x.value) eb ∙ ev ∙ ap (λ (q : ℕ). (overflow_at st.overflow q).link) el in
          let es : b.start ≡ basic_slots g i = ap (λ (x : Slots). x.start) eb in
          let em : b.displaced ≡ g.link = ap (λ (x : Slots). x.displaced) eb in
          stored_as (relabelled g st i p label)
          (stored_displaced g t T i last p link (slot_from whole there) base there hi last_below k (slot_from_lt whole there) refl refl refl a r
          (over a r (rw (← ew, ← es, ← ez, ← em, ← en, ← ex) S)) u (eu ∙ ap (λ (q : ℕ). link_put g a q r) el))
          (sym first_is)

    -- in an overflow block
    module _ (k : g.sib ≤ p) where
      pub here : InBlocks g st.overflow (sized g t T) (first ∷ others) (p - g.sib)
      here = in_blocks g st.overflow (sized g t T) blocks.chain (p - g.sib) (long_place g st i p P h k)

  -- ---- behind the basic block: place p is a slot of an overflow block

  module _ (k : g.sib ≤ p) where
    abbrev h : g.sib < (basic_at st.basic i).counter
    h = long_there k

    abbrev slot : BlockSlot
    slot = block_slot_in g (first h ∷ others h) (p - g.sib)

    within : InBlocks g st.overflow (sized g t T) (first h ∷ others h) (p - g.sib)
    within = here h k

    pub reaches : (b : ℕ) → b ≡ first h → Reaches g st.overflow b (p - g.sib)
    reaches b e = rw e (record { ends = long_ends g st i P.followed P.is h; within = rw (blocks h).are (long_place g st i p P h k) })

    -- s is that slot
    pub record SlotAt (s : BlockSlot) : Type 0 where
      pub is : s ≡ slot
      pub low : s.block.0 < g.nob
      pub few : s.slot.0 < g.sio

    pub slot_at : (b : ℕ) → b ≡ first h → (s : BlockSlot) → s ≡ block_slot_in g (blocks_from g st.overflow b) (p - g.sib) → SlotAt s
    slot_at b e s es =
        let is : s ≡ slot =
        es
        ∙ ap (λ (x : ℕ). block_slot_in g (blocks_from g st.overflow x) (p - g.sib)) e
        ∙ ap (λ (bs : List ℕ). block_slot_in g bs (p - g.sib)) (blocks h).are in
        let j : s.block.0 ≡ slot.block.0 = ap (λ (x : BlockSlot). x.block.0) is in
        let q : s.slot.0 ≡ slot.slot.0 = ap (λ (x : BlockSlot). x.slot.0) is in
        record { is = is; low = omega (arith, within.low); few = omega (arith, within.few) }

    -- its label is within the table
    pub slot_ends : (s : BlockSlot) → SlotAt s → (z : ℕ) → z ≡ overflow_slot g s.block.0 s.slot.0 → z + g.bie + g.val ≤ g.bits
    slot_ends s S z e = omega (arith, overflow_slot_ends g T.proper s.block.0 S.low s.slot.0 S.few, T.proper.slot_is)

    abbrev over_there : ℕ
    over_there = overflow_slot g slot.block.0 slot.slot.0

    behind_entry : entry_of g (get_or (body h ++ tail h) p 0) ≡ field t over_there g.bie
    behind_entry =
        let e : p ≡ length (body h) + (p - g.sib) = omega (arith, unpack_length g (link h) (basic_at st.basic i).rest) in
        ap (entry_of g)
        (ap (λ (n : ℕ). get_or (body h ++ tail h) n 0) e
        ∙ get_or-append-add (body h) (tail h) (p - g.sib) 0
        ∙ within.holds
        ∙ overflow_slot_is g t T slot.block.0 slot.slot.0 within.low within.few)
        ∙ slot_entry g T.proper t over_there

    behind_is : relabelled g st i p label ≡ over_overflow slot.block.0 (with_slot slot.slot.0 (slot_from t over_there)) st
    unfolding store_at
    behind_is =
        long_is h
        ∙ rw (le-ltb p g.sib k)
        (ap (λ (os : List Overflow). mk_state st.free st.basic os) (within.stored (slot_of g (entry_of g (get_or (body h ++ tail h) p 0)) label))
        ∙ ap (λ (e : ℕ). over_overflow slot.block.0 (with_slot slot.slot.0 (slot_of g e label)) st) behind_entry)

    pub relabelled_overflow : (s : BlockSlot) → SlotAt s → (z : ℕ) → z ≡ overflow_slot g s.block.0 s.slot.0 → (u : List ℕ)
        → u ≡ put_field t (z + g.bie) g.val label → Relabelled g t u i p label
    relabelled_overflow s S z ez u eu =
        let q : z ≡ over_there = ez ∙ ap (λ (b : BlockSlot). overflow_slot g b.block.0 b.slot.0) S.is in
        stored_as (relabelled g st i p label)
        (stored_overflow_slot g t T slot.block.0 within.low slot.slot.0 (slot_from t over_there) within.few (slot_from_lt t over_there) u
        (slot_put_lem g T.proper t u over_there (slot_from t over_there)
        (eu ∙ ap (λ (n : ℕ). put_field t (n + g.bie) g.val label) q ∙ label_put t over_there g.bie g.val (field t over_there g.bie) label refl hl)))
        (sym behind_is)

  -- ---- behind the first L bits of the basic block's slots it is one store, whether the list overflows or not

  pub relabelled_plain : Bytes t → p < g.sib → basic_slots g i + g.link ≤ basic_slot g i p + g.bie → (z : ℕ) → z ≡ basic_slot g i p + g.bie
      → (u : List ℕ) → u ≡ put_field t z g.val label → Relabelled g t u i p label
  relabelled_plain y k l z ez u eu = pick (dec_le (basic_at st.basic i).counter g.sib)
    where
      pick : Dec ((basic_at st.basic i).counter ≤ g.sib) → Relabelled g t u i p label
      pick (yes h) = relabelled_short h z ez u eu
      pick (no h) = relabelled_behind (omega arith) k y l u (eu ∙ ap (λ (n : ℕ). put_field t n g.val label) ez)
