-- The first free block, and a list that can be followed.
use Rattle.std.specs.Prelude.{Ok, Err}
use mathlib.Core.Path.{◌≡◌, refl, sym, ap, ap₂, ◌∙◌}
use mathlib.Core.Bool.{true, false}
use mathlib.Core.List.{List, [], ◌∷◌}
use Prim.Native.Nat.{ℕ, ◌+◌, ◌-◌, ◌≤◌, ◌<◌}
use native.Mathlib.Omega.{arith}
use native.Mathlib.Decide.{dec_le}
use lib.ListN.{length, take, length-take}
use lib.Dec.{eqb, ltb}
use borrow.Author.Tests.{eq-eqb, ne_eqb, eqb-false, lt-ltb, le-ltb, ltb-true, ltb-false}
use Rattle.laws.specs.Cases.{cases}
use Rattle.settings.specs.declared.layout.Layout.{Layout}
use Rattle.settings.specs.declared.refusal.Refusal.{Refusal}
use Rattle.settings.specs.declared.refusal.Refusal.TheVariants as refusal
use Rattle.table.specs.State.{State, basic_at, overflow_at, own_slots}
use Rattle.table.specs.Follow.{Content, mk_content, last_of, gather}
use Rattle.table.specs.Take.{occurs, next_free, taking, taken}
use Rattle.table.specs.Enter.{extended}
use Rattle.table_read.specs.Steps.{last_from}
use Rattle.table_read.specs.BlockSlots.{blocks_from, block_slot, block_slot_in, Reaches}
use Rattle.table.specs.Done.{Done, damage, done, Answered, unchanged, answered}
use Rattle.table_read.specs.theory.Walks.{last_low, content_short}
use Rattle.table_read.specs.theory.BlockSlots.{Chained, gather_some, last_block_slot, long_full, long_ends, long_blocks, long_own, long_length}
use Rattle.table_read.specs.theory.Reads.{unpack_length}
use Rattle.table_read.specs.declared.lists.BlockSlot.{BlockSlot}
use Rattle.std.specs.declared.result.Result.{Result}
use Rattle.table_enter.specs.declared.append.Free.{Free}
use Rattle.table_enter.specs.Enters.{free_block, free_of, EndsIn, Readable}
use Rattle.table.specs.Answer.{Answer}

-- ---- the first free block

-- f is free, and n is the free start once it is taken
pub record Takes (g : Layout) (st : State) (f n : ℕ) : Type 0 where
  pub first : f ≡ st.free
  pub next : n ≡ next_free g st.overflow st.free
  pub low : f < g.nob
  pub next_low : n ≤ g.nob
  pub goes : (bs : List ℕ) (y : Done) → ltb 0 (occurs f bs) ≡ false → taking g st bs y ≡ y
  pub met : (bs : List ℕ) (y : Done) → ltb 0 (occurs f bs) ≡ true → taking g st bs y ≡ damage

-- the list goes on in this block, if it is none of its own
pub extended_to : {g : Layout} {st : State} {f n : ℕ} → Takes g st f n → (i : ℕ) (bs : List ℕ) (d x : ℕ) (linkTo : ℕ → State → State)
    → ltb 0 (occurs f bs) ≡ false → extended g st i bs d x linkTo ≡ done (taken g i f n d x (linkTo f st))
extended_to k i bs d x linkTo e = k.goes bs _ e ∙ rw (k.next, k.first)

module _ (g : Layout) (st : State) where
  abbrev link : ℕ
  link = (overflow_at st.overflow st.free).link

  pub free_high : g.nob < st.free → Err refusal.Damage ≡ free_of g st
  unfolding free_of
  free_high h = rw (lt-ltb g.nob st.free h)

  pub free_none : st.free ≡ g.nob → Err refusal.NoBlock ≡ free_of g st
  unfolding free_of
  free_none h = rw (le-ltb g.nob st.free (omega arith), eq-eqb st.free g.nob h)

  module _ (f l : ℕ) (ef : f ≡ st.free) (el : l ≡ (overflow_at st.overflow f).link) (hf : f < g.nob) where
    link_is : l ≡ link
    link_is = el ∙ ap (λ (n : ℕ). (overflow_at st.overflow n).link) ef

    pub free_bad : g.nob ≤ l → Err refusal.Damage ≡ free_of g st
    unfolding free_of
    free_bad h =
        rw (le-ltb g.nob st.free (omega arith), ne_eqb st.free g.nob (λ q. omega arith), le-ltb link g.nob (omega (arith, link_is)))

    pub free_end : l < g.nob → l ≡ f → free_block f g.nob ≡ free_of g st
    unfolding free_of
    free_end h e =
        rw (le-ltb g.nob st.free (omega arith), ne_eqb st.free g.nob (λ q. omega arith), lt-ltb link g.nob (omega (arith, link_is)), eq-eqb link st.free (omega (arith, link_is)))
        (ap (λ (n : ℕ). free_block n g.nob) ef)

    pub free_on : l < g.nob → (l ≡ f → ⊥) → free_block f l ≡ free_of g st
    unfolding free_of
    free_on h e =
        rw (le-ltb g.nob st.free (omega arith), ne_eqb st.free g.nob (λ q. omega arith), lt-ltb link g.nob (omega (arith, link_is)), ne_eqb link st.free (λ q. e (omega (arith, link_is))))
        (ap₂ free_block ef link_is)

  not_block : {X : Type 0} (why : Refusal) (x : Free) → Err why ≡ Ok x → X
  not_block why x e = absurd (let z : ◌≡◌ {A = ℕ} 0 1 = cc in omega arith)

  next_le : ltb link g.nob ≡ true → next_free g st.overflow st.free ≤ g.nob
  next_le r =
      cases (eqb link st.free)
      (λ z. rw z (omega arith))
      (λ z. rw z (omega (arith, ltb-true link g.nob r)))

  takes_when : (x : Free) → ltb g.nob st.free ≡ false → eqb st.free g.nob ≡ false → ltb link g.nob ≡ true
      → free_block st.free (next_free g st.overflow st.free) ≡ Ok x → Takes g st x.number.0 x.next.0
  takes_when x p q r e =
      let z : record { number = record { 0 = st.free }; next = record { 0 = next_free g st.overflow st.free } } ≡ x = cc in
      let a : x.number.0 ≡ st.free = ap (λ (y : Free). y.number.0) (sym z) in
      let b : x.next.0 ≡ next_free g st.overflow st.free = ap (λ (y : Free). y.next.0) (sym z) in
      let d : st.free ≡ g.nob → ⊥ = eqb-false st.free g.nob q in
      record {
        first = a;
        next = b;
        low = omega (arith, ltb-false g.nob st.free p);
        next_low = omega (arith, next_le r);
        goes = λ bs y z. rw (p, q, ap (λ (x : ℕ). ltb 0 (occurs x bs)) (sym a) ∙ z, r);
        met = λ bs y z. rw (p, q, ap (λ (x : ℕ). ltb 0 (occurs x bs)) (sym a) ∙ z);
      }

  pub takes : (x : Free) → free_of g st ≡ Ok x → Takes g st x.number.0 x.next.0
  unfolding free_of
  takes x =
      cases (ltb g.nob st.free)
      (λ p. rw p (not_block refusal.Damage x))
      (λ p. cases (eqb st.free g.nob)
      (λ q. rw (p, q) (not_block refusal.NoBlock x))
      (λ q. cases (ltb link g.nob)
      (λ r. rw (p, q, r) (takes_when x p q r))
      (λ r. rw (p, q, r) (not_block refusal.Damage x))))

  same_why : (why was : Refusal) → ◌≡◌ {A = Result Free Refusal} (Err was) (Err why) → was ≡ why
  same_why why was e = cc

  -- where there is no free block, the answer is that refusal, whatever list asks
  pub no_take : (bs : List ℕ) (y : Done) (a : Answer) (why : Refusal) → free_of g st ≡ Err why
      → answered a (taking g st bs y) ≡ unchanged (Err why)
  unfolding free_of
  no_take bs y a why =
      let say : Refusal → Answered = λ w. unchanged (Err w) in
      cases (ltb g.nob st.free)
      (λ p. rw p (λ e. ap say (same_why why refusal.Damage e)))
      (λ p. cases (eqb st.free g.nob)
      (λ q. rw (p, q) (λ e. ap say (same_why why refusal.NoBlock e)))
      (λ q. cases (ltb link g.nob)
      (λ r. rw (p, q, r) (λ e. not_block why _ (sym e)))
      (λ r. rw (p, q, r) (λ e. cases (ltb 0 (occurs st.free bs)) (λ z. rw z (ap say (same_why why refusal.Damage e))) (λ z. rw z (ap say (same_why why refusal.Damage e)))))))

-- ---- a list that can be followed

module _ (g : Layout) (st : State) (i n : ℕ) (R : Readable g st i n) where
  -- the number of its entries, by its basic block's counter
  short_length : (basic_at st.basic i).counter ≤ g.sib → n ≡ (basic_at st.basic i).counter
  short_length h =
      let b = basic_at st.basic i in
      let q = R.is in
      let e = content_short g st i h in
      let z : R.followed ≡ mk_content [] (take b.counter (own_slots g b)) = cc in
      omega (
        arith,
        R.long,
        ap (λ (x : Content). length x.slots) z,
        length-take b.counter (own_slots g b),
        unpack_length g b.head b.rest,
      )

  module _ (sized : (j : ℕ) → j < g.nob → length (overflow_at st.overflow j).slots ≡ g.sio) where
    module _ (hc : g.sib < (basic_at st.basic i).counter) where
      abbrev blocks : Chained g st.overflow (basic_at st.basic i).head
      blocks = long_blocks g st i R.followed R.is hc

      entries : n ≡ g.sib + length (gather g st.overflow ((basic_at st.basic i).head ∷ blocks.others))
      entries = R.long ∙ long_length g st i R.followed R.is hc

      some_over : 0 < length (gather g st.overflow ((basic_at st.basic i).head ∷ blocks.others))
      some_over = gather_some g st.overflow sized blocks.chain

    pub few : n ≤ g.sib → n ≡ (basic_at st.basic i).counter
    few h = pick (dec_le (basic_at st.basic i).counter g.sib)
      where
        pick : Dec ((basic_at st.basic i).counter ≤ g.sib) → n ≡ (basic_at st.basic i).counter
        pick (yes l) = short_length l
        pick (no l) = let k : g.sib < (basic_at st.basic i).counter = omega arith in absurd (omega (arith, entries k, some_over k))

    -- more entries than the basic block has slots
    module _ (hn : g.sib < n) where
      many : g.sib < (basic_at st.basic i).counter
      many = pick (dec_le (basic_at st.basic i).counter g.sib)
        where
          pick : Dec ((basic_at st.basic i).counter ≤ g.sib) → g.sib < (basic_at st.basic i).counter
          pick (yes l) = absurd (omega (arith, short_length l))
          pick (no l) = omega arith

      pub last_reached : (h : ℕ) → h ≡ (basic_at st.basic i).head → Reaches g st.overflow h (n - g.sib - 1)
      last_reached h eh =
          rw eh
          (record {
            ends = long_ends g st i R.followed R.is many;
            within = rw (blocks many).are (omega (arith, entries many, some_over many));
          })

      abbrev last : ℕ
      last = last_of (basic_at st.basic i).head (blocks many).others

      block_slot_is : block_slot_in g (blocks_from g st.overflow (basic_at st.basic i).head) (n - g.sib - 1)
          ≡ block_slot last (overflow_at st.overflow last).counter
      block_slot_is =
          let c = blocks many in
          let e : n - g.sib - 1 ≡ length (gather g st.overflow ((basic_at st.basic i).head ∷ c.others)) - 1 = omega (arith, entries many) in
          rw (c.are, e) (last_block_slot g st.overflow sized c.chain)

      -- the last entry stands in the last block, in the slot that the counter there names
      pub ends_in : (h : ℕ) → h ≡ (basic_at st.basic i).head → (s : BlockSlot) → s ≡ block_slot_in g (blocks_from g st.overflow h) (n - g.sib - 1)
          → EndsIn g st i h s.block.0 × (s.slot.0 ≡ (overflow_at st.overflow s.block.0).counter)
      unfolding last_from
      ends_in h eh s =
          rw eh
          (λ es.
          rw (es ∙ block_slot_is) (
            record {
              full = long_full g st i R.followed R.is many;
              head = refl;
              last = rw ((blocks many).found, long_own g st i R.followed R.is many);
              low = last_low g st.overflow (blocks many).chain;
            },
            refl,
          ))
