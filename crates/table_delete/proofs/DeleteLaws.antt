-- Delete, step by step: following a list to its end, its last slot, and the stores that take that slot off.
use mathlib.Core.Path.{◌≡◌, sym, ap, ap₂, ◌∙◌, refl}
use mathlib.Core.List.{List, ◌∷◌, ◌++◌, append-nil}
use Prim.Native.Nat.{ℕ, suc, ◌+◌, ◌-◌, ◌^◌, ◌≤◌, ◌<◌}
use native.Mathlib.Omega.{arith}
use lib.ListN.{length, get_or, take, length-append, length-take}
use lib.Seq.{get_or-append-add, get_or-take}
use lib.Dec.{eqb}
use borrow.Author.Tests.{eqb-false, ltb-false, lt-ltb, le-ltb}
use lib.Pow.{pow_pos}
use Rattle.laws.specs.Cases.{cases}
use Rattle.bits.specs.Put.{put_field}
use Rattle.keys.specs.declared.BlockNumber.{BlockNumber}
use Rattle.settings.specs.declared.layout.Layout.{Layout}
use Rattle.table.specs.State.{Overflow, State, overflow_at, empty_block}
use Rattle.table.specs.Updates.{over_basic, over_overflow, with_free, with_front, with_slot, with_counter, with_basic_front}
use Rattle.table.specs.Decode.{decode, block_at}
use Rattle.table.specs.Table.{Table, Within}
use Rattle.table.specs.Follow.{last_of, gather}
use Rattle.table.specs.Take.{link_free, freed}
use Rattle.table.specs.Delete.{last_slot_off, handed_back, shrink_at, cannot_free, prior_of}
use Rattle.table_read.specs.Steps.{Followed}
use Rattle.table_read.specs.BlockSlots.{blocks_from}
use Rattle.table_read.specs.theory.Walks.{Chain, ends, more}
use Rattle.table_read.specs.theory.BlockSlots.{chained, gather_some}
use Rattle.table_store.specs.Stores.{free_put, overflow_counter_put, slot_put, Stored}
use Rattle.table_store.specs.theory.StoreLaws.{overflow_twice, stored_then, stored_as, stored_free, stored_overflow_counter, stored_overflow_slot}
use Rattle.table_store.specs.theory.PlaceLaws.{Kept}
use Rattle.table_delete.specs.DeleteSteps.{end, end_in, cannot_free_at, Shrinkable}
use Rattle.table.specs.theory.Formed.{overflows}
use Rattle.table_read.specs.Places.{overflow_slot}
use Rattle.table_delete.specs.declared.shrink.End.{End}
use Rattle.table.specs.declared.step.Before.{Before}
use Rattle.table.specs.declared.step.Before.TheVariants as prior

-- the last of two rows is the last of the second
pub get_or_end : (xs ys : List ℕ) → 0 < length ys → get_or (xs ++ ys) (length (xs ++ ys) - 1) 0 ≡ get_or ys (length ys - 1) 0
get_or_end xs ys h =
    let e : length (xs ++ ys) - 1 ≡ length xs + (length ys - 1) = omega (arith, length-append xs ys) in
    ap (λ (n : ℕ). get_or (xs ++ ys) n 0) e ∙ get_or-append-add xs ys (length ys - 1) 0

-- ---- the blocks of a list

module _ (g : Layout) (os : List Overflow) where
  pub prior_low : {b : ℕ} {cs : List ℕ} (p : Before) → Within g p → Chain g os b cs → Within g (prior_of p b cs)
  prior_low p l (ends h k) = l
  prior_low p l (more {b} h e c) = prior_low (prior.Block (record { 0 = b })) h c

  -- ---- to the end

  pub record Ending (first b : ℕ) (before : Before) (k : ℕ) : Type 0 where
    pub others : List ℕ
    pub chain : Chain g os b others
    pub few : length others + k < g.nob
    pub same : end_in g before (b ∷ others) ≡ end_in g prior.Basic (blocks_from g os first)

  pub ending_first : (first : ℕ) → Followed g g.nob os first → Ending first first prior.Basic 0
  ending_first first f =
      let c = chained g os first f in
      record { others = c.others; chain = c.chain; few = omega (arith, c.few); same = ap (end_in g prior.Basic) (sym c.are) }

  module _ (first b : ℕ) (before : Before) (k : ℕ) where
    ending_here_as : {cs : List ℕ} (r : End) → ((overflow_at os b).counter ≡ g.sio → ⊥) → Chain g os b cs → end_in g before (b ∷ cs) ≡ r → end b before ≡ r
    ending_here_as r l (ends h m) e = e
    ending_here_as r l (more h m c) e = absurd (l m)

    pub ending_here : Ending first b before k → ((overflow_at os b).counter ≡ g.sio → ⊥) → end b before ≡ end_in g prior.Basic (blocks_from g os first)
    ending_here m l = ending_here_as (end_in g prior.Basic (blocks_from g os first)) l m.chain m.same

    abbrev passed : Before
    passed = prior.Block (record { 0 = b })

    ending_on_as : {cs : List ℕ} → Chain g os b cs → length cs + k < g.nob → end_in g before (b ∷ cs) ≡ end_in g prior.Basic (blocks_from g os first)
        → (overflow_at os b).counter ≡ g.sio → Ending first (overflow_at os b).link passed (k + 1)
    ending_on_as (ends h m) f e l = absurd (omega arith)
    ending_on_as (more {cs} h m c) f e l = record { others = cs; chain = c; few = omega arith; same = e }

    pub ending_on : Ending first b before k → (overflow_at os b).counter ≡ g.sio → Ending first (overflow_at os b).link passed (k + 1)
    ending_on m l = ending_on_as m.chain m.few m.same l

  -- a decoded block has sio slots
  module _ (sized : (j : ℕ) → j < g.nob → length (overflow_at os j).slots ≡ g.sio) where
    pub last_slot_lem : {b : ℕ} {cs : List ℕ} → Chain g os b cs
        → get_or (gather g os (b ∷ cs)) (length (gather g os (b ∷ cs)) - 1) 0 ≡ get_or (overflow_at os (last_of b cs)).slots (overflow_at os (last_of b cs)).counter 0
    last_slot_lem (ends {b} h l) =
        let n = (overflow_at os b).counter in
        let xs = (overflow_at os b).slots in
        let e : length (take (suc n) xs) - 1 ≡ n = omega (arith, sized b h, length-take (suc n) xs) in
        rw (append-nil (take (suc n) xs))
        (ap (λ (k : ℕ). get_or (take (suc n) xs) k 0) e ∙ get_or-take (suc n) xs n 0 (omega arith))
    last_slot_lem (more {b} {cs} h e c) =
        get_or_end (take (suc (overflow_at os b).counter) (overflow_at os b).slots) (gather g os ((overflow_at os b).link ∷ cs)) (gather_some g os sized c)
        ∙ last_slot_lem c

-- ---- the last slot off

module _ (g : Layout) (st : State) (i : ℕ) where
  pub free_low : (l : ℕ) → Shrinkable g st l → (overflow_at st.overflow l).counter ≤ 0 → st.free ≤ g.nob
  unfolding cannot_free
  free_low l s h = ltb-false g.nob st.free (rw (le-ltb 0 (overflow_at st.overflow l).counter h) at s.free)

  pub free_kept : (u : State) → Kept g st i u → (l : ℕ) → cannot_free_at g l u ≡ cannot_free_at g l st
  unfolding cannot_free
  free_kept u k l = rw (k.free, k.counters l)

  pub shrinkable_kept : (u : State) → Kept g st i u → (l : ℕ) → Shrinkable g st l → Shrinkable g u l
  shrinkable_kept u k l s =
      record { low = s.low; few = omega (arith, k.counters l, s.few); free = free_kept u k l ∙ s.free }

-- ---- stores

module _ (g : Layout) (t : List ℕ) (T : Table g t) where
  pub stored_slot_off : (j : ℕ) → j < g.nob → (n at place : ℕ) → n < g.sio → n ≡ (overflow_at (decode g t).overflow j).counter → at ≡ overflow_slot g j n → place ≡ block_at g.overflow j
      → (u : List ℕ) → u ≡ put_field (put_field t at g.slot 0) place g.overflow.counter (n - 1) → Stored g t u (over_overflow j last_slot_off (decode g t))
  unfolding slot_put overflow_counter_put
  stored_slot_off j l n at place hn en eat ep u eu =
      let a = put_field t (overflow_slot g j n) g.slot 0 in
      let s = stored_overflow_slot g t T j l n 0 hn (pow_pos g.slot) (put_field t (overflow_slot g j n) g.slot 0) refl in
      let e : u ≡ put_field a (block_at g.overflow j) g.overflow.counter (n - 1) =
      eu ∙ ap₂ (λ (x y : ℕ). put_field (put_field t x g.slot 0) y g.overflow.counter (n - 1)) eat ep in
      stored_as (over_overflow j last_slot_off (decode g t))
      (stored_then (over_overflow j (with_counter (n - 1))) s
      (stored_overflow_counter g a s.table j l u (n - 1) (omega (arith, T.proper.overflow_holds)) e))
      (overflow_twice j (with_counter (n - 1)) (with_slot n 0) (decode g t) (omega (arith, overflows g t))
      ∙ ap (λ (m : ℕ). over_overflow j (λ o. with_counter (m - 1) (with_slot m 0 o)) (decode g t)) en)

  pub link_free_fits : (f j : ℕ) → f ≤ g.nob → j < g.nob → link_free g f j < 2 ^ g.link
  link_free_fits f j h l =
      cases (eqb f g.nob)
      (λ p. rw p (omega (arith, T.proper.link_holds)))
      (λ p. let n = eqb-false f g.nob p in rw p (omega (arith, T.proper.link_holds)))

  pub stored_free_block : (j f v : ℕ) → j < g.nob → f ≡ (decode g t).free → v ≡ link_free g f j
      → (a u : List ℕ) → Stored g t a (over_overflow j (λ o. empty_block g v 0) (decode g t)) → u ≡ free_put g a j → Stored g t u (freed g j (decode g t))
  stored_free_block j f v l ef ev a u s eu =
      stored_as (freed g j (decode g t))
      (stored_then (with_free j) s (stored_free g a s.table u j (omega (arith, T.proper.free_holds)) eu))
      (ap (λ (x : ℕ). with_free j (over_overflow j (λ o. empty_block g x 0) (decode g t))) (ev ∙ ap (λ (x : ℕ). link_free g x j) ef))

-- an emptied block: its displaced bits go back, and it is freed
pub stored_further : {g : Layout} {t a : List ℕ} (i l : ℕ) (p : Before) (b : BlockNumber) (n v : ℕ) → p ≡ prior.Block b → n ≡ g.sio - 1
    → v ≡ (overflow_at (decode g t).overflow l).link → Stored g t a (over_overflow b.0 (with_front n v) (decode g t))
    → Stored g t a (handed_back g i l p (decode g t))
unfolding handed_back
stored_further {g} {t} i l p b n v ep en ev s =
    stored_as (handed_back g i l p (decode g t)) s
    (rw ep (ap₂ (λ (m w : ℕ). over_overflow b.0 (with_front m w) (decode g t)) en ev))

pub stored_back : {g : Layout} {t a : List ℕ} (i l : ℕ) (p : Before) (v : ℕ) → p ≡ prior.Basic → v ≡ (overflow_at (decode g t).overflow l).link
    → Stored g t a (over_basic i (with_basic_front g.sib v) (decode g t)) → Stored g t a (handed_back g i l p (decode g t))
unfolding handed_back
stored_back {g} {t} i l p v ep ev s =
    stored_as (handed_back g i l p (decode g t)) s
    (rw ep (ap (λ (w : ℕ). over_basic i (with_basic_front g.sib w) (decode g t)) ev))

-- the list shorter by its last slot: the last block keeps some, or is freed
pub stored_kept : {g : Layout} {t u : List ℕ} (i l : ℕ) (p : Before) → 0 < (overflow_at (decode g t).overflow l).counter
    → Stored g t u (over_overflow l last_slot_off (decode g t)) → Stored g t u (shrink_at g i l p (decode g t))
unfolding shrink_at
stored_kept {g} {t} i l p h s =
    stored_as (shrink_at g i l p (decode g t)) s (rw (lt-ltb 0 (overflow_at (decode g t).overflow l).counter h))

pub stored_freed : {g : Layout} {t a u : List ℕ} (i l : ℕ) (p : Before) → (overflow_at (decode g t).overflow l).counter ≤ 0
    → Stored g t a (handed_back g i l p (decode g t)) → Stored g a u (freed g l (decode g a)) → Stored g t u (shrink_at g i l p (decode g t))
unfolding shrink_at
stored_freed {g} {t} i l p h s r =
    stored_as (shrink_at g i l p (decode g t)) (stored_then (freed g l) s r)
    (rw (le-ltb 0 (overflow_at (decode g t).overflow l).counter h))
