-- A removal: what it comes to by the definitions.
use mathlib.Core.Path.{◌≡◌, sym, ap, subst, ◌∙◌}
use mathlib.Core.Bool.{Bool, true, false, cond}
use mathlib.Core.List.{List, [], ◌∷◌}
use Prim.Native.Nat.{ℕ, ◌-◌, ◌^◌, ◌≤◌, ◌<◌}
use native.Mathlib.Omega.{arith}
use lib.ListN.{length, get_or, set, take}
use lib.Seq.{get_or-take, get_or-set_same, lt-length-set}
use lib.Pow.{pow_pos}
use Rattle.bits.specs.Field.{field}
use Rattle.bits.specs.Put.{put_field}
use Rattle.settings.specs.declared.layout.Layout.{Layout}
use Rattle.table.specs.State.{Basic, State, empty_basic, basic_at, overflow_at, unpack, own_slots, basic_of}
use Rattle.table.specs.Updates.{over_basic, with_basic_counter}
use Rattle.table.specs.Decode.{decode}
use Rattle.table.specs.Table.{Table, Within}
use Rattle.table.specs.Follow.{last_of, gather}
use Rattle.table.specs.Delete.{prior_of, basic_slot_off, shrink_at, shrink, cannot_free}
use Rattle.table_read.specs.BlockSlots.{blocks_from, Reaches}
use Rattle.table.specs.Done.{Done, damage, done}
use Rattle.table.specs.Store.{slot_in, store_at}
use Rattle.table_read.specs.theory.Walks.{last_low, content_short}
use Rattle.table_read.specs.theory.BlockSlots.{chain_low, Chained, last_few, gather_some, content_chained, long_full, long_ends, long_blocks, long_own}
use Rattle.table.specs.theory.Formed.{basics}
use Rattle.table_store.specs.Stores.{basic_counter_put, slot_put, Stored}
use Rattle.table_store.specs.Places.{Placed, store_from}
use Rattle.table_store.specs.theory.StoreLaws.{basic_twice, stored_none, stored_then, stored_as, stored_basic_counter, stored_basic_slot}
use Rattle.table_store.specs.theory.PlaceLaws.{Kept, overflow_slot_is, basic_slot_is, short_used, short_place, long_place, store_is, store_keeps}
use Rattle.table_delete.specs.DeleteSteps.{end_in, cannot_free_at, Shrinkable, removal_of, removal, Removed}
use Rattle.table_delete.proofs.DeleteLaws.{get_or_end, last_slot_lem, free_kept, shrinkable_kept, prior_low}
use Rattle.table_read.specs.Places.{basic_slot, overflow_slot}
use Rattle.table_delete.specs.declared.shrink.End.{End}
use Rattle.table.specs.declared.step.Before.TheVariants as prior

-- the last slot of overflow block l
abbrev pub last_slot : State → ℕ → ℕ
last_slot st l = get_or (overflow_at st.overflow l).slots (overflow_at st.overflow l).counter 0

module _ (g : Layout) (st : State) (i p : ℕ) (P : Placed g st i p) where
  -- ---- a list without overflow blocks
  module _ (h : (basic_at st.basic i).counter ≤ g.sib) where
    abbrev slots : List ℕ
    slots = own_slots g (basic_at st.basic i)

    pub short_is : removal g st i p ≡ shrink g (store_at g st i [] p (get_or slots ((basic_at st.basic i).counter - 1) 0)) i []
    unfolding removal
    short_is =
        let n = (basic_at st.basic i).counter in
        let e : length (take (basic_at st.basic i).counter slots) - 1 ≡ (basic_at st.basic i).counter - 1 = omega (arith, short_used g st i p P h) in
        let l : (basic_at st.basic i).counter - 1 < (basic_at st.basic i).counter = omega (arith, short_place g st i p P h) in
        ap (removal_of g st i p) (content_short g st i h)
        ∙ ap (λ (x : ℕ). shrink g (store_at g st i [] p x) i [])
        (ap (λ (k : ℕ). get_or (take n slots) k 0) e ∙ get_or-take n slots (n - 1) 0 l)

  -- ---- a list with overflow blocks
  module _ (sz : (j : ℕ) → j < g.nob → length (overflow_at st.overflow j).slots ≡ g.sio) (h : g.sib < (basic_at st.basic i).counter) where
    abbrev first : ℕ
    first = (basic_at st.basic i).head

    abbrev blocks : Chained g st.overflow first
    blocks = long_blocks g st i P.followed P.is h

    abbrev others : List ℕ
    others = blocks.others

    abbrev last : ℕ
    last = last_of first others

    abbrev body : List ℕ
    body = unpack g (overflow_at st.overflow last).link (basic_at st.basic i).rest

    abbrev tail : List ℕ
    tail = gather g st.overflow (first ∷ others)

    inside : g.sib ≤ p → p - g.sib < length tail
    inside l = long_place g st i p P h l

    abbrev filled : State
    filled = store_from g i first last p (last_slot st last) st

    long_is : removal g st i p ≡ shrink g filled i (first ∷ others)
    unfolding removal
    long_is =
        ap (removal_of g st i p) (content_chained g st i (long_full g st i P.followed P.is h) blocks (long_own g st i P.followed P.is h))
        ∙ ap (λ (x : ℕ). shrink g (store_at g st i (first ∷ others) p x) i (first ∷ others))
        (get_or_end body tail (gather_some g st.overflow sz blocks.chain) ∙ last_slot_lem g st.overflow sz blocks.chain)
        ∙ ap (λ (u : State). shrink g u i (first ∷ others)) (store_is g st i sz blocks.chain blocks.are p (last_slot st last) inside)

    pub record Route (b : ℕ) (e : End) : Type 0 where
      pub first_low : b < g.nob
      pub low : e.last.0 < g.nob
      pub few : (overflow_at st.overflow e.last.0).counter < g.sio
      pub prior_low : Within g e.before
      pub reaches : g.sib ≤ p → Reaches g st.overflow b (p - g.sib)
      pub is : removal g st i p
          ≡ cond (cannot_free_at g e.last.0 st) damage
          (done (shrink_at g i e.last.0 e.before (store_from g i b e.last.0 p (last_slot st e.last.0) st)))

    shrunk_is : shrink g filled i (first ∷ others) ≡ cond (cannot_free_at g last st) damage (done (shrink_at g i last (prior_of prior.Basic first others) filled))
    unfolding shrink
    shrunk_is = rw (free_kept g st i filled (store_keeps g st i first last p (last_slot st last)) last)

    route_is : Route first (end_in g prior.Basic (first ∷ others))
    route_is =
        record {
          first_low = chain_low g st.overflow blocks.chain;
          low = last_low g st.overflow blocks.chain;
          few = last_few g st.overflow blocks.chain;
          prior_low = prior_low g st.overflow prior.Basic tt blocks.chain;
          reaches = λ l. record { ends = long_ends g st i P.followed P.is h; within = rw blocks.are (inside l) };
          is = long_is ∙ shrunk_is;
        }

    -- b is the first of the overflow blocks, and e is their end
    pub route : (b : ℕ) (e : End) → b ≡ first → e ≡ end_in g prior.Basic (blocks_from g st.overflow b) → Route b e
    route b e eb ee =
        subst (λ (x : ℕ). Route x e) (sym eb)
        (subst (λ (x : End). Route first x) (sym (ee ∙ ap (λ (x : ℕ). end_in g prior.Basic (blocks_from g st.overflow x)) eb ∙ ap (end_in g prior.Basic) blocks.are)) route_is)

-- ---- a removal from a list without overflow blocks

module _ (g : Layout) (t : List ℕ) (T : Table g t) where
  pub removed_short : (i p c x : ℕ) → i < g.lists → Placed g (decode g t) i p → c ≡ (basic_at (decode g t).basic i).counter → c ≤ g.sib
      → x ≡ field t (basic_slot g i (c - 1)) g.slot → x < 2 ^ g.slot
      → (a b u : List ℕ) → a ≡ slot_put g t (basic_slot g i p) x → b ≡ put_field a (basic_slot g i (c - 1)) g.slot 0 → u ≡ basic_counter_put g b i (c - 1)
      → Removed g t u i p true
  unfolding slot_put store_at shrink
  removed_short i p c x hi P ec hc ex hx a b u ea eb eu =
      let st = decode g t in
      let n = (basic_at (decode g t).basic i).counter in
      let hn : (basic_at (decode g t).basic i).counter ≤ g.sib = omega arith in
      let hp = short_place g (decode g t) i p P hn in
      let k : c - 1 < g.sib = omega arith in
      let s₁ = stored_basic_slot g t T i hi p x (omega arith) hx a ea in
      let s₂ = stored_basic_slot g a s₁.table i hi (c - 1) 0 k (pow_pos g.slot) b eb in
      let s₃ = stored_basic_counter g b s₂.table i hi u (c - 1) (omega (arith, T.proper.basic_holds)) eu in
      let st₁ = over_basic i (slot_in g p x) (decode g t) in
      let there : i < length (decode g t).basic = omega (arith, basics g t) in
      let l : i < length (set (decode g t).basic i (slot_in g p x (basic_at (decode g t).basic i))) = lt-length-set (decode g t).basic i (slot_in g p x (basic_at (decode g t).basic i)) there in
      let m : c - 1 ≡ (basic_at st₁.basic i).counter - 1 =
      ap (λ (y : ℕ). y - 1)
      (ec ∙ sym (ap (λ (y : Basic). y.counter) (get_or-set_same (decode g t).basic i (slot_in g p x (basic_at (decode g t).basic i)) empty_basic there))) in
      record {
        state = over_basic i (basic_slot_off g) st₁;
        is =
            short_is g (decode g t) i p P hn
            ∙ ap (λ (y : ℕ). shrink g (store_at g (decode g t) i [] p y) i [])
            (basic_slot_is g t T i ((basic_at (decode g t).basic i).counter - 1) hi (omega arith)
            ∙ ap (λ (y : ℕ). field t (basic_slot g i (y - 1)) g.slot) (sym ec) ∙ sym ex);
        stored =
            stored_as (over_basic i (basic_slot_off g) st₁)
            (stored_then (over_basic i (with_basic_counter (c - 1))) (stored_then (over_basic i (slot_in g (c - 1) 0)) s₁ s₂) s₃)
            (basic_twice i (with_basic_counter (c - 1)) (slot_in g (c - 1) 0) st₁ l
            ∙ ap
            (λ (q : ℕ). over_basic i
            (λ y. basic_of g q (set (own_slots g y) q 0)) st₁)
            m);
      }

-- ---- a removal from a list with overflow blocks: e is their end, and n the last one's counter

module _ {g : Layout} {t : List ℕ} (T : Table g t) {i p : ℕ} {P : Placed g (decode g t) i p}
    {sz : (j : ℕ) → j < g.nob → length (overflow_at (decode g t).overflow j).slots ≡ g.sio} {h : g.sib < (basic_at (decode g t).basic i).counter}
    {b : ℕ} {e : End} (R : Route g (decode g t) i p P sz h b e) (n : ℕ) (en : n ≡ (overflow_at (decode g t).overflow e.last.0).counter) where
  abbrev st : State
  st = decode g t

  -- the state once the slot x went into the hole
  abbrev filled_with : ℕ → State
  filled_with x = store_from g i b e.last.0 p x st

  abbrev ended : Bool → Done
  ended r = cond r damage (done (shrink_at g i e.last.0 e.before (filled_with (last_slot st e.last.0))))

  told : (r : Bool) → cannot_free g n st ≡ r → cannot_free_at g e.last.0 st ≡ r
  told r q = ap (λ (m : ℕ). cannot_free g m st) (sym en) ∙ q

  -- the last block has the slot that its counter names
  pub slot_there : n < g.sio
  slot_there = omega (arith, R.few)

  pub removed_shut : cannot_free g n st ≡ true → Removed g t t i p false
  removed_shut q = record { state = st; is = R.is ∙ ap ended (told true q); stored = stored_none T }

  -- its block is not freed, or can be
  module _ (q : cannot_free g n st ≡ false) where
    -- a slot stored keeps the last block's counter, and the free start
    module _ (l x : ℕ) (a : List ℕ) (s : Stored g t a (store_from g i b l p x st)) where
      kept : Kept g st i (store_from g i b l p x st)
      kept = store_keeps g st i b l p x

      pub shrinkable : Shrinkable g (decode g a) e.last.0
      shrinkable =
          subst (λ (u : State). Shrinkable g u e.last.0) (sym s.state)
          (shrinkable_kept g st i (store_from g i b l p x st) kept e.last.0 (record { low = R.low; few = R.few; free = told false q }))

      pub counter_kept : n ≡ (overflow_at (decode g a).overflow e.last.0).counter
      counter_kept = en ∙ sym (ap (λ (u : State). (overflow_at u.overflow e.last.0).counter) s.state ∙ kept.counters e.last.0)

    pub removed_open : (at x : ℕ) → at ≡ overflow_slot g e.last.0 n → x ≡ field t at g.slot → (a u : List ℕ)
        → Stored g t a (filled_with x) → Stored g a u (shrink_at g i e.last.0 e.before (decode g a)) → Removed g t u i p true
    removed_open at x ea ex a u s r =
        let z : x ≡ last_slot st e.last.0 =
        ex ∙ ap (λ (y : ℕ). field t y g.slot) (ea ∙ ap (overflow_slot g e.last.0) en)
        ∙ sym (overflow_slot_is g t T e.last.0 (overflow_at st.overflow e.last.0).counter R.low R.few) in
        let w = shrink_at g i e.last.0 e.before (filled_with (last_slot st e.last.0)) in
        record {
          state = w;
          is = R.is ∙ ap ended (told false q);
          stored =
              stored_as w (stored_then (shrink_at g i e.last.0 e.before) s r)
              (ap (λ (y : ℕ). shrink_at g i e.last.0 e.before (filled_with y)) z);
        }
