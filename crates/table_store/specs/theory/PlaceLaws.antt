-- Places of a list: where they are in the blocks, and what a slot stored there does.
use Rattle.std.specs.Prelude.{◌≡◌, set, take, ltb}
use Rattle.std.proofs.Math.Path.{refl, sym, ap}
use Rattle.std.proofs.Common.{subst, ◌∙◌, length-append, get_or-set_same, get_or-set_other, lt-ltb, le-ltb}
use mathlib.Core.List.{List, [], ◌∷◌, ◌++◌}
use Rattle.std.proofs.Math.Option.{Option, none, some}
use Prim.Native.Nat.{ℕ, suc, ◌+◌, ◌-◌, ◌*◌, ◌^◌, ◌≤◌, ◌<◌}
use native.Mathlib.Omega.{arith}
use Rattle.std.proofs.Math.Decide.{dec_le, ℕ_discrete}
use Rattle.std.proofs.Math.ListN.{length, get_or, length-take, get_or-append}
use Rattle.std.proofs.Math.Seq.{get_or-append-add, get_or-take, set_out}
use Rattle.table_read.specs.Places.{basic_slot, overflow_slot}
use Rattle.bits.specs.Bytes.{Bytes}
use Rattle.bits.specs.Field.{field}
use Rattle.bits.specs.Put.{put_field}
use Rattle.bits.specs.theory.Fields.{field_lt}
use Rattle.bits.specs.theory.Puts.{put_zero, put_own}
use Rattle.laws.specs.Cases.{cases}
use Rattle.settings.specs.declared.layout.Layout.{Layout}
use Rattle.table.specs.State.{Overflow, State, mk_state, absent_block, basic_at, overflow_at, unpack, head_of, rest_of, own_slots}
use Rattle.table.specs.Updates.{with_link, with_slot, with_rest, over_basic, over_overflow}
use Rattle.table.specs.Decode.{basic_slots, link_at, overflow_slots, read_overflow, decode}
use Rattle.table.specs.Table.{Table}
use Rattle.table.specs.Follow.{Content, last_of, gather}
use Rattle.table.specs.Store.{store_displaced, store_overflow, store_at}
use Rattle.table_read.specs.BlockSlots.{blocks_from, block_slot_in, Reaches}
use Rattle.table.specs.theory.Arrays.{get_or_tab}
use Rattle.table.specs.theory.Changes.{basic_ends, over_low, at_over}
use Rattle.table_read.specs.Steps.{restored_bytes, basic_run}
use Rattle.table_read.specs.theory.Places.{basic_slot_ends, overflow_slot_ends}
use Rattle.table_read.specs.theory.Reads.{link_lt, sized, unpack_length, slot_in_lem, basic_slots_in}
use Rattle.table_read.specs.theory.Walks.{Chain, ends, more, content_short}
use Rattle.table_read.specs.theory.BlockSlots.{chained, one_more, last_one, long_blocks, long_length}
use Rattle.table_read.specs.declared.lists.BlockSlot.{BlockSlot}
use Rattle.table_store.specs.Stores.{StoredOver, Stored, link_put, slot_put}
use Rattle.table_store.specs.Places.{Placed, store_in_block, store_from, place_from, Storable}
use Rattle.table_store.specs.theory.StoreLaws.{stored_then, stored_as, stored_link, stored_overflow_slot, over_behind, over_head, over_rest}

module _ (g : Layout) (os : List Overflow) (sized : (j : ℕ) → j < g.nob → length (overflow_at os j).slots ≡ g.sio) where
  -- what is known of place q of the blocks: the slot that stands there, and what a slot stored there does
  pub record InBlocks (bs : List ℕ) (q : ℕ) : Type 0 where
    pub low : (block_slot_in g bs q).block.0 < g.nob
    pub few : (block_slot_in g bs q).slot.0 < g.sio
    pub holds : get_or (gather g os bs) q 0 ≡ get_or (overflow_at os (block_slot_in g bs q).block.0).slots (block_slot_in g bs q).slot.0 0
    pub stored : (x : ℕ) → store_overflow g os bs q x
        ≡ set os (block_slot_in g bs q).block.0 (with_slot (block_slot_in g bs q).slot.0 x (overflow_at os (block_slot_in g bs q).block.0))

  -- the slots in use of block b
  abbrev used : ℕ → List ℕ
  used b = take (suc (overflow_at os b).counter) (overflow_at os b).slots

  in_blocks_here : {b : ℕ} (cs : List ℕ) (q : ℕ) → b < g.nob → q < g.sio → q ≤ (overflow_at os b).counter → InBlocks (b ∷ cs) q
  unfolding store_overflow
  in_blocks_here {b} cs q h l m =
      let n : q < length (used b) = omega (arith, sized b h, length-take (suc (overflow_at os b).counter) (overflow_at os b).slots) in
      record {
        low = rw (lt-ltb q g.sio l) h;
        few = rw (lt-ltb q g.sio l) l;
        holds =
            get_or-append (used b) (gather g os cs) 0 q n
            ∙ get_or-take (suc (overflow_at os b).counter) (overflow_at os b).slots q 0 (omega arith)
            ∙ rw (lt-ltb q g.sio l);
        stored = λ x. rw (lt-ltb q g.sio l);
      }

  in_blocks_on : {b : ℕ} (cs : List ℕ) (q : ℕ) → b < g.nob → (overflow_at os b).counter ≡ g.sio → g.sio ≤ q → InBlocks cs (q - g.sio)
      → InBlocks (b ∷ cs) q
  unfolding store_overflow
  in_blocks_on {b} cs q h f l s =
      let e : q ≡ length (used b) + (q - g.sio) = omega (arith, sized b h, length-take (suc (overflow_at os b).counter) (overflow_at os b).slots) in
      record {
        low = rw (le-ltb q g.sio l) s.low;
        few = rw (le-ltb q g.sio l) s.few;
        holds =
            ap (λ (n : ℕ). get_or (used b ++ gather g os cs) n 0) e
            ∙ get_or-append-add (used b) (gather g os cs) (q - g.sio) 0
            ∙ rw (le-ltb q g.sio l) s.holds;
        stored = λ x. rw (le-ltb q g.sio l) (s.stored x);
      }

  pub in_blocks : {b : ℕ} {cs : List ℕ} → Chain g os b cs → (q : ℕ) → q < length (gather g os (b ∷ cs)) → InBlocks (b ∷ cs) q
  in_blocks (ends {b} h l) q m =
      in_blocks_here [] q h (last_one g os sized h m)
      (omega (arith, length-append (used b) [], length-take (suc (overflow_at os b).counter) (overflow_at os b).slots))
  in_blocks (more {b} {cs} h e c) q m = pick (dec_le g.sio q) (λ l. in_blocks c (q - g.sio) (one_more g os sized (gather g os ((overflow_at os b).link ∷ cs)) h l m))
    where
      pick : Dec (g.sio ≤ q) → (g.sio ≤ q → InBlocks ((overflow_at os b).link ∷ cs) (q - g.sio)) → InBlocks (b ∷ (overflow_at os b).link ∷ cs) q
      pick (no l) f = in_blocks_here ((overflow_at os b).link ∷ cs) q h (omega arith) (omega arith)
      pick (yes l) f = in_blocks_on ((overflow_at os b).link ∷ cs) q h e l (f l)

  pub in_blocks_at : (b q : ℕ) → Reaches g os b q → InBlocks (blocks_from g os b) q
  in_blocks_at b q r =
      let c = chained g os b r.ends in
      rw c.are (in_blocks c.chain q (rw c.are at r.within))

-- ---- the slot that stands in a place

module _ (g : Layout) (t : List ℕ) (T : Table g t) where
  pub overflow_slot_is : (j k : ℕ) → j < g.nob → k < g.sio → get_or (overflow_at (decode g t).overflow j).slots k 0 ≡ field t (overflow_slot g j k) g.slot
  unfolding read_overflow overflow_slot
  overflow_slot_is j k h l =
      ap (λ (o : Overflow). get_or o.slots k 0) (at_over g T.proper t j h)
      ∙ get_or_tab g.sio (λ q. field t (overflow_slots g j + q * g.slot) g.slot) k 0 l

  pub basic_slot_is : (i k : ℕ) → i < g.lists → k < g.sib
      → get_or (own_slots g (basic_at (decode g t).basic i)) k 0 ≡ field t (basic_slot g i k) g.slot
  unfolding basic_run restored_bytes basic_slot
  basic_slot_is i k h l =
      let es = own_slots g (basic_at (decode g t).basic i) in
      sym (get_or-take g.sib es k 0 l)
      ∙ ap (λ (xs : List ℕ). get_or xs k 0) (sym (basic_slots_in g t T i g.sib h (omega arith)))
      ∙ slot_in_lem g t (basic_run g i g.sib) k l
      ∙ ap (λ (s : List ℕ). field s (basic_slots g i + k * g.slot) g.slot) (put_zero t (basic_slots g i) 0)

abbrev length_of : Option Content → ℕ
length_of none = 0
length_of (some v) = length v.slots

-- a place of a list without overflow blocks, and of one with
module _ (g : Layout) (st : State) (i p : ℕ) (P : Placed g st i p) where
  module _ (h : (basic_at st.basic i).counter ≤ g.sib) where
    -- the slots in use
    pub short_used : length (take (basic_at st.basic i).counter (own_slots g (basic_at st.basic i))) ≡ (basic_at st.basic i).counter
    short_used =
        omega (
          arith,
          length-take (basic_at st.basic i).counter (own_slots g (basic_at st.basic i)),
          unpack_length g (basic_at st.basic i).head (basic_at st.basic i).rest,
        )

    pub short_place : p < (basic_at st.basic i).counter
    short_place = omega (arith, short_used, P.within, ap length_of (sym P.is ∙ content_short g st i h))

  pub long_place : (h : g.sib < (basic_at st.basic i).counter) → g.sib ≤ p
      → p - g.sib < length (gather g st.overflow ((basic_at st.basic i).head ∷ (long_blocks g st i P.followed P.is h).others))
  long_place h l = omega (arith, P.within, long_length g st i P.followed P.is h)

-- ---- a slot stored in a place

module _ (g : Layout) (st : State) (i : ℕ) where
  module _ (l p : ℕ) where
    pub store_low : (h x : ℕ) → p < g.sib → store_displaced g i l p x st ≡ store_from g i h l p x st
    unfolding store_from
    store_low h x k = rw (lt-ltb p g.sib k)

    pub store_high : (h x : ℕ) → g.sib ≤ p → store_in_block (block_slot_in g (blocks_from g st.overflow h) (p - g.sib)) x st ≡ store_from g i h l p x st
    unfolding store_from
    store_high h x k = rw (le-ltb p g.sib k)

  -- storeAt, where the blocks are h and then cs
  pub store_is : ((j : ℕ) → j < g.nob → length (overflow_at st.overflow j).slots ≡ g.sio) → {h : ℕ} {cs : List ℕ} → Chain g st.overflow h cs
      → blocks_from g st.overflow h ≡ h ∷ cs → (p x : ℕ) → (g.sib ≤ p → p - g.sib < length (gather g st.overflow (h ∷ cs)))
      → store_at g st i (h ∷ cs) p x ≡ store_from g i h (last_of h cs) p x st
  unfolding store_at store_from
  store_is sized {h} {cs} c e p x k = pick (dec_le g.sib p)
    where
      pick : Dec (g.sib ≤ p) → store_at g st i (h ∷ cs) p x ≡ store_from g i h (last_of h cs) p x st
      pick (no l) = let m : p < g.sib = omega arith in rw (lt-ltb p g.sib m)
      pick (yes l) =
          rw (le-ltb p g.sib l, e)
          (ap (λ (os : List Overflow). mk_state st.free st.basic os) ((in_blocks g st.overflow sized c (p - g.sib) (k l)).stored x))

  -- a slot stored keeps counters, and the free start
  counter_kept : (j : ℕ) (o : Overflow) → o.counter ≡ (overflow_at st.overflow j).counter → (l : ℕ)
      → (overflow_at (set st.overflow j o) l).counter ≡ (overflow_at st.overflow l).counter
  counter_kept j o e l = pick (ℕ_discrete l j) (dec_le (length st.overflow) j)
    where
      pick : Dec (l ≡ j) → Dec (length st.overflow ≤ j) → (overflow_at (set st.overflow j o) l).counter ≡ (overflow_at st.overflow l).counter
      pick (no n) d = ap (λ (x : Overflow). x.counter) (get_or-set_other st.overflow j l o absent_block n)
      pick (yes q) (yes d) = ap (λ (xs : List Overflow). (overflow_at xs l).counter) (set_out st.overflow j o d)
      pick (yes q) (no d) =
          rw q (ap (λ (x : Overflow). x.counter) (get_or-set_same st.overflow j o absent_block (omega arith)) ∙ e)

  pub record Kept (u : State) : Type 0 where
    pub free : u.free ≡ st.free
    pub counters : (l : ℕ) → (overflow_at u.overflow l).counter ≡ (overflow_at st.overflow l).counter

  pub store_keeps : (h l p x : ℕ) → Kept (store_from g i h l p x st)
  unfolding store_from
  store_keeps h l p x =
      cases (ltb p g.sib)
      (λ q. rw q (record { free = refl; counters = counter_kept l _ refl }))
      (λ q. rw q (record { free = refl; counters = counter_kept (block_slot_in g (blocks_from g st.overflow h) (p - g.sib)).block.0 _ refl }))

-- ---- stores

-- a link that stands there already
link_own : (g : Layout) (t : List ℕ) → Table g t → (j : ℕ) → j < g.nob → link_put g t j (overflow_at (decode g t).overflow j).link ≡ t
unfolding link_put read_overflow
link_own g t T j h =
    ap (λ (o : Overflow). put_field t (link_at g j) g.link o.link) (at_over g T.proper t j h) ∙ put_own t (link_at g j) g.link

module _ (g : Layout) (t : List ℕ) (T : Table g t) where
  -- a slot under the displaced bits, which count as the last block's link, v
  module _ (i l p v x base at : ℕ) (hi : i < g.lists) (hl : l < g.nob) (hp : p < g.sib) (hx : x < 2 ^ g.slot) (ev : v ≡ (overflow_at (decode g t).overflow l).link)
      (eb : base ≡ basic_slots g i) (ea : at ≡ basic_slot g i p) (a : List ℕ) (r : ℕ) (P : StoredOver g.link g.slot t a base v at x r) where
    hv : v < 2 ^ g.link
    hv = rw ev (link_lt g t T l hl)

    Q : StoredOver g.link g.slot t a (basic_slots g i) v (basic_slot g i p) x r
    Q = subst (λ (n : ℕ). StoredOver g.link g.slot t a n v (basic_slot g i p) x r) eb (subst (λ (n : ℕ). StoredOver g.link g.slot t a base v n x r) ea P)

    under : Stored g t a (over_basic i (λ b. with_rest (rest_of g (set (unpack g v b.rest) p x)) b) (decode g t))
    under = over_rest g t T i hi p v x hp hv hx a r Q

    pub stored_displaced : (u : List ℕ) → u ≡ link_put g a l r → Stored g t u (store_displaced g i l p x (decode g t))
    stored_displaced u eu =
        let hr : r < 2 ^ g.link = rw Q.head (field_lt _ (basic_slots g i) g.link) in
        let st = decode g t in
        let es : ℕ → List ℕ = λ n. set (unpack g n (basic_at st.basic i).rest) p x in
        stored_as (store_displaced g i l p x st)
        (stored_then (over_overflow l (with_link r)) under (stored_link g a under.table l hl u r hr eu))
        (ap (λ (n : ℕ). over_overflow l (with_link n) (over_basic i (with_rest (rest_of g (es v))) st)) (over_head g t T i hi p v x hp hv hx a r Q)
        ∙ ap (λ (n : ℕ). over_overflow l (with_link (head_of g (es n))) (over_basic i (with_rest (rest_of g (es n))) st)) ev)

    -- these bits are as before, and so is the link
    pub stored_displaced_same : r ≡ v → Stored g t a (store_displaced g i l p x (decode g t))
    stored_displaced_same e =
        stored_displaced a
        (sym
        (ap (link_put g a l) (e ∙ ev ∙ sym (ap (λ (st : State). (overflow_at st.overflow l).link) under.state))
        ∙ link_own g a under.table l hl))

  stored_in_block : (s : BlockSlot) (x at : ℕ) → s.block.0 < g.nob → s.slot.0 < g.sio → x < 2 ^ g.slot → at ≡ overflow_slot g s.block.0 s.slot.0 → (u : List ℕ) → u ≡ slot_put g t at x
      → Stored g t u (store_in_block s x (decode g t))
  stored_in_block s x at hb hs hx ea u eu =
      stored_overflow_slot g t T s.block.0 hb s.slot.0 x hs hx u (eu ∙ ap (λ (n : ℕ). slot_put g t n x) ea)

  -- ---- at a place that is in the list

  module _ (i h l p at : ℕ) (W : Storable g (decode g t) i h l p) (ea : at ≡ place_from g i h p (decode g t)) where
    abbrev block_slot : BlockSlot
    block_slot = block_slot_in g (blocks_from g (decode g t).overflow h) (p - g.sib)

    block_slot_there : g.sib ≤ p → InBlocks g (decode g t).overflow (sized g t T) (blocks_from g (decode g t).overflow h) (p - g.sib)
    block_slot_there k = in_blocks_at g (decode g t).overflow (sized g t T) h (p - g.sib) (W.reaches k)

    at_low : p < g.sib → at ≡ basic_slot g i p
    unfolding place_from
    at_low k = ea ∙ rw (lt-ltb p g.sib k)

    at_high : g.sib ≤ p → at ≡ overflow_slot g block_slot.block.0 block_slot.slot.0
    unfolding place_from
    at_high k = ea ∙ rw (le-ltb p g.sib k)

    pub place_ends : at + g.slot ≤ g.bits
    place_ends = pick (dec_le g.sib p)
      where
        pick : Dec (g.sib ≤ p) → at + g.slot ≤ g.bits
        pick (no f) = let k : p < g.sib = omega arith in omega (arith, at_low k, basic_slot_ends g T.proper i W.list p k)
        pick (yes k) = let s = block_slot_there k in omega (arith, at_high k, overflow_slot_ends g T.proper block_slot.block.0 s.low block_slot.slot.0 s.few)

    -- the overflow blocks stand behind the basic blocks
    under_low : at < basic_slots g i + g.link → p < g.sib
    unfolding basic_slots overflow_slot overflow_slots
    under_low b = pick (dec_le g.sib p)
      where
        pick : Dec (g.sib ≤ p) → p < g.sib
        pick (no f) = omega arith
        pick (yes k) = let F = T.proper in absurd (omega (arith, at_high k, over_low g F block_slot.block.0, basic_ends g F i W.list, F.basic_is, F.link_fits))

    module _ (x : ℕ) (hx : x < 2 ^ g.slot) where
      -- behind the displaced bits it is one store
      pub stored_plain : Bytes t → basic_slots g i + g.link ≤ at → (u : List ℕ) → u ≡ put_field t at g.slot x → Stored g t u (store_from g i h l p x (decode g t))
      unfolding slot_put
      stored_plain y b u eu = pick (dec_le g.sib p)
        where
          v : ℕ
          v = (overflow_at (decode g t).overflow l).link

          pick : Dec (g.sib ≤ p) → Stored g t u (store_from g i h l p x (decode g t))
          pick (no f) =
              let k : p < g.sib = omega arith in
              stored_as (store_from g i h l p x (decode g t))
              (stored_displaced_same i l p v x (basic_slots g i) at W.list W.last k hx refl refl (at_low k) u v
              (over_behind g.link g.slot t u (basic_slots g i) v at x y b (omega (arith, place_ends, T.room)) (link_lt g t T l W.last) eu) refl)
              (store_low g (decode g t) i l p h x k)
          pick (yes k) =
              let s = block_slot_there k in
              stored_as (store_from g i h l p x (decode g t))
              (stored_in_block block_slot x at s.low s.few hx (at_high k) u eu)
              (store_high g (decode g t) i l p h x k)

      -- under them, what they are then goes to the link of block l
      pub stored_under : at < basic_slots g i + g.link → (v base r : ℕ) (a u : List ℕ) → v ≡ (overflow_at (decode g t).overflow l).link → base ≡ basic_slots g i
          → StoredOver g.link g.slot t a base v at x r → u ≡ link_put g a l r → Stored g t u (store_from g i h l p x (decode g t))
      stored_under b v base r a u ev eb P eu =
          let k = under_low b in
          stored_as (store_from g i h l p x (decode g t))
          (stored_displaced i l p v x base at W.list W.last k hx ev eb (at_low k) a r P u eu)
          (store_low g (decode g t) i l p h x k)
