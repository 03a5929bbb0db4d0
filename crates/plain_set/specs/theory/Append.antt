-- Append on one list: the slot x at its end, in its last block, or in a block that is taken from the free chain.
use Rattle.std.specs.Prelude.{◌≡◌, Bool, true, false, ◌&&◌, length, drop, eqb, ltb}
use Rattle.std.proofs.Math.Path.{refl, sym, ap, ap₂, subst}
use Rattle.std.proofs.Common.{◌∙◌}
use mathlib.Core.List.{List, [], ◌∷◌, ◌++◌, append-nil}
use Prim.Native.Nat.{ℕ, suc, ◌+◌, ◌*◌, ◌≤◌, ◌<◌}
use native.Mathlib.Omega.{arith}
use Rattle.std.proofs.Math.ListN.{set, length-drop, length-set, drop_of_length-le}
use Rattle.std.proofs.lemmas.List.{set-get_or, drop-append-le}
use borrow.Author.Tests.{eq-eqb, ne_eqb, lt-ltb, le-ltb, ltb-true, ltb-false}
use Rattle.laws.specs.Cases.{cases}
use Rattle.laws.specs.Sums.{occurs_head}
use Rattle.settings.specs.declared.layout.Layout.{Layout}
use Rattle.settings.specs.Proper.{Proper}
use Rattle.table.specs.State.{Basic, Overflow, State, mk_state, empty_basic, basic_at, overflow_at, empty_block}
use Rattle.table.specs.Updates.{with_front, with_slot, with_basic_front}
use Rattle.table.specs.Follow.{last_of}
use Rattle.table.specs.Take.{occurs, next_free, taking}
use Rattle.table.specs.Enter.{one_more, basic_more, append}
use Rattle.table.specs.Done.{Done, damage, no_block, done}
use Rattle.table.specs.theory.Formed.{Fits, all_nil, all_cons, all_append}
use Rattle.plain_set.specs.theory.Pad.{padded_append, padded_append_le, length_snoc}
use Rattle.plain_set.specs.theory.Slots.{unpack_set}
use Rattle.plain_set.specs.theory.Rep.{Holds, Chain}
use Rattle.plain_set.specs.theory.Follow.{tail_length, tail_last}
use Rattle.plain_set.specs.theory.Use.{no_vacant, full_holds}
use Rattle.plain_set.specs.theory.Update.{set_here, set_there, two_first, two_second, two_else, chain_frame, Standing, Edit}
use Rattle.plain_set.specs.theory.Tails.{occurs_last, not_in, absent, apart, last_block, tail_append, tail_extend}
use Rattle.plain_set.specs.theory.Count.{count_append}

-- Taking a block ---------------------------------------------------------------------------------------------------------

module _ {g : Layout} {st : State} {i : ℕ} {bs fs es : List ℕ} where
  free_low : Standing g st i bs (st.free ∷ fs) es → st.free < g.nob
  free_low k = k.low st.free (omega (arith, occurs_head st.free fs))

  -- the block to take is not one of the list
  free_new : Standing g st i bs (st.free ∷ fs) es → occurs st.free bs ≡ 0
  free_new k = omega (arith, k.dis st.free, occurs_head st.free fs)

next_low : {g : Layout} {st : State} {i : ℕ} {bs es : List ℕ} (fs : List ℕ) → Standing g st i bs (st.free ∷ fs) es
    → (overflow_at st.overflow st.free).link < g.nob
next_low [] k = rw k.chain.1 (free_low k)
next_low (n ∷ ns) k = rw k.chain.1.0 (k.low n (omega (arith, occurs_head n ns)))

-- once the first free block is taken, the others are the free chain
next_chain : {g : Layout} {st : State} {i : ℕ} {bs es : List ℕ} (fs : List ℕ) → Standing g st i bs (st.free ∷ fs) es
    → Chain g st.overflow (next_free g st.overflow st.free) fs
next_chain {st = st} [] k = rw (k.chain.1, eq-eqb st.free st.free refl)
next_chain {st = st} (n ∷ ns) k =
    rw (k.chain.1.0, ne_eqb n st.free (not_in st.free n (n ∷ ns) (λ j. omega (arith, k.dis j)) (occurs_head n ns)))
    (refl, k.chain.1.1)

module _ {g : Layout} {st : State} {i : ℕ} {bs es : List ℕ} (on : Done) where
  taking_none : Standing g st i bs [] es → taking g st bs on ≡ no_block
  taking_none k = rw (le-ltb g.nob st.free (omega arith), eq-eqb st.free g.nob k.chain)

  taking_some : {fs : List ℕ} → Standing g st i bs (st.free ∷ fs) es → taking g st bs on ≡ on
  taking_some {fs} k =
      let l = free_low k in
      rw (
        le-ltb g.nob st.free (omega arith),
        ne_eqb st.free g.nob (λ q. omega arith),
        le-ltb 0 (occurs st.free bs) (omega (arith, free_new k)),
        lt-ltb (overflow_at st.overflow st.free).link g.nob (next_low fs k),
      )

-- Append -----------------------------------------------------------------------------------------------------------------

module _ (g : Layout) where
  -- "no block" is due: the list has no vacant slot, and no block is free
  abbrev pub must_refuse : List ℕ → List ℕ → Bool
  must_refuse fs es = no_vacant g.sib g.sio (length es) && eqb (length fs) 0

  -- an edit after which the list has its blocks, or these and the first free one: cs is as many of them as are there, `rest` the others
  pub record Grown (st : State) (i : ℕ) (bs fs es : List ℕ) (u : State) : Type 0 where
    pub cs : List ℕ
    pub ns : List ℕ
    pub edit : Edit g st i bs fs cs ns es u
    pub rest : List ℕ
    pub blocks : cs ++ rest ≡ bs ++ st.free ∷ []

  -- how an append ends: never in damage, without a block where that is due, and else with the list one slot longer
  abbrev pub Appended : State → ℕ → List ℕ → List ℕ → List ℕ → ℕ → Done → Type 0
  Appended st i bs fs es x damage = ⊥
  Appended st i bs fs es x no_block = must_refuse fs es ≡ true
  Appended st i bs fs es x (done u) = (must_refuse fs es ≡ false) × Grown st i bs fs (es ++ x ∷ []) u

some_free : (t : Bool) (f : ℕ) (fs : List ℕ) → t && eqb (length (f ∷ fs)) 0 ≡ false
some_free true f fs = ne_eqb (suc (length fs)) 0 (λ q. omega arith)
some_free false f fs = refl

module _ {g : Layout} (F : Proper g) {st : State} {i : ℕ} {es : List ℕ} where
  vacant : {bs fs : List ℕ} → Standing g st i bs fs es → length es < g.sib + g.sio * length bs → must_refuse g fs es ≡ false
  vacant {bs} k l =
      rw (
        full_holds F i (basic_at st.basic i) st.overflow bs es k.hold,
        ne_eqb (length es) (g.sib + g.sio * length bs) (λ q. omega arith),
      )

  full : {bs : List ℕ} → Standing g st i bs [] es → length es ≡ g.sib + g.sio * length bs → must_refuse g [] es ≡ true
  full {bs} k l =
      rw (
        full_holds F i (basic_at st.basic i) st.overflow bs es k.hold,
        eq-eqb (length es) (g.sib + g.sio * length bs) l,
      )

  -- what the last block's counter says of a list whose last block has no room
  tail_full : {c : ℕ} {cs fs : List ℕ} → Standing g st i (c ∷ cs) fs es → g.sio ≤ suc (last_block st.overflow c cs).counter
      → (suc (last_block st.overflow c cs).counter ≡ g.sio) × (length es ≡ g.sib + g.sio * suc (length cs))
  tail_full {c} {cs} k l =
      let h : Holds g i (basic_at st.basic i) st.overflow (c ∷ cs) es = k.hold in
      let a = tail_last g i st.overflow c cs (drop g.sib es) h.0 h.5 in
      let b = tail_length g i st.overflow c cs (drop g.sib es) h.0 h.5 in
      (omega (arith, length-drop g.sib es), omega (arith, length-drop g.sib es))

  module _ (x : ℕ) (fx : Fits g.slot x) where
    -- room in the basic block
    append_basic : {fs : List ℕ} → Standing g st i [] fs es → length es < g.sib → Appended g st i [] fs es x (append g st i [] x)
    unfolding append
    append_basic {fs} k l =
        let b : Basic = basic_at st.basic i in
        rw (lt-ltb b.counter g.sib (omega arith)) (
          vacant k (omega arith),
          record {
            cs = [];
            ns = fs;
            rest = st.free ∷ [];
            blocks = refl;
            edit = record {
              block = basic_more g x b;
              us = st.overflow;
              free = st.free;
              is = refl;
              len = k.len;
              hold = (
                omega (arith, length_snoc es x),
                omega (arith, length_snoc es x),
                unpack_set g b.head b.rest b.counter x fx
                    ∙ ap₂ (λ (ys : List ℕ) (n : ℕ). set ys n x) k.hold.2 k.hold.1
                    ∙ sym (padded_append g.sib es x l),
              );
              fit = all_append k.fit (all_cons fx all_nil);
              chain = k.chain;
              others = λ j z. refl;
              same = λ j. refl;
            };
          },
        )

    -- the basic block is full: the first overflow block, with the basic block's first bits in its link
    append_first : {fs : List ℕ} → Standing g st i [] (st.free ∷ fs) es → length es ≡ g.sib
        → Appended g st i [] (st.free ∷ fs) es x (append g st i [] x)
    unfolding append
    append_first {fs} k l =
        let b : Basic = basic_at st.basic i in
        let os : List Overflow = st.overflow in
        let f : ℕ = st.free in
        let v : Overflow = with_slot 0 x (empty_block g b.head i) in
        rw (le-ltb b.counter g.sib (omega arith), taking_some _ k) (
          some_free (no_vacant g.sib g.sio (length es)) f fs,
          record {
            cs = f ∷ [];
            ns = fs;
            rest = [];
            blocks = refl;
            edit = record {
              block = with_basic_front (suc g.sib) f b;
              us = set os f v;
              free = next_free g os f;
              is = refl;
              len = simp length-set k.len;
              hold = (
                b.head,
                omega (arith, length_snoc es x),
                refl,
                refl,
                k.hold.2 ∙ sym (padded_append_le g.sib es (x ∷ []) (omega arith)),
                rw (drop-append-le g.sib es (x ∷ []) (omega arith), drop_of_length-le es {i = g.sib} (omega arith))
                    (omega arith, omega (arith, F.sio_low), set_here os f v (omega (arith, k.len, free_low k)) ∙ rw (padded_append g.sio [] x F.sio_low)),
              );
              fit = all_append k.fit (all_cons fx all_nil);
              chain =
                  chain_frame g os (set os f v) (next_free g os f) fs
                  (λ j m. set_there os f v j (not_in f j fs (λ n. omega (arith, k.dis n)) m))
                  (next_chain fs k);
              others = λ j z. set_there os f v j (λ q. absent f j fs (omega arith) (sym q));
              same = λ j. omega arith;
            };
          },
        )

    module _ {c : ℕ} {cs : List ℕ} where
      -- room in the last block
      append_last : {fs : List ℕ} → Standing g st i (c ∷ cs) fs es → suc (last_block st.overflow c cs).counter < g.sio
          → Appended g st i (c ∷ cs) fs es x (append g st i (c ∷ cs) x)
      unfolding append
      append_last {fs} k l =
          let os : List Overflow = st.overflow in
          let h : Holds g i (basic_at st.basic i) os (c ∷ cs) es = k.hold in
          let p : ℕ = last_of c cs in
          let v : Overflow = one_more x (overflow_at os p) in
          rw (lt-ltb (suc (overflow_at os p).counter) g.sio l) (
            vacant k (omega (arith, tail_last g i os c cs (drop g.sib es) h.0 h.5, length-drop g.sib es)),
            record {
              cs = c ∷ cs;
              ns = fs;
              rest = st.free ∷ [];
              blocks = refl;
              edit = record {
                block = basic_at st.basic i;
                us = set os p v;
                free = st.free;
                is = ap (λ (bs : List Basic). mk_state st.free bs (set os p v)) (sym (set-get_or st.basic i empty_basic));
                len = simp length-set k.len;
                hold = (
                  h.0,
                  omega (arith, length_snoc es x),
                  h.2,
                  h.3,
                  h.4 ∙ sym (padded_append_le g.sib es (x ∷ []) (omega arith)),
                  rw (drop-append-le g.sib es (x ∷ []) (omega arith))
                      (tail_append g i os (set os p v) c cs (drop g.sib es) h.0 x h.5 (λ j. omega (arith, k.dis j)) l
                      (set_here os p v (omega (arith, k.len, k.low p (omega (arith, occurs_last c cs)))))
                      (set_there os p v)),
                );
                fit = all_append k.fit (all_cons fx all_nil);
                chain =
                    chain_frame g os (set os p v) st.free fs
                    (λ j m. set_there os p v j (apart j p (c ∷ cs) (omega (arith, k.dis j)) (occurs_last c cs)))
                    k.chain;
                others = λ j z. set_there os p v j (apart j p (c ∷ cs) (omega arith) (occurs_last c cs));
                same = λ j. refl;
              };
            },
          )

      -- the last block is full: a further block, which takes its link
      append_more : {fs : List ℕ} → Standing g st i (c ∷ cs) (st.free ∷ fs) es → suc (last_block st.overflow c cs).counter ≡ g.sio
          → Appended g st i (c ∷ cs) (st.free ∷ fs) es x (append g st i (c ∷ cs) x)
      unfolding append
      append_more {fs} k l =
          let os : List Overflow = st.overflow in
          let h : Holds g i (basic_at st.basic i) os (c ∷ cs) es = k.hold in
          let f : ℕ = st.free in
          let p : ℕ = last_of c cs in
          let v : Overflow = with_front g.sio f (overflow_at os p) in
          let u : Overflow = with_slot 0 x (empty_block g (overflow_at os p).link i) in
          let us : List Overflow = set (set os p v) f u in
          rw (le-ltb (suc (overflow_at os p).counter) g.sio (omega arith), taking_some _ k) (
            some_free (no_vacant g.sib g.sio (length es)) f fs,
            record {
              cs = c ∷ (cs ++ f ∷ []);
              ns = fs;
              rest = [];
              blocks = append-nil (c ∷ (cs ++ f ∷ []));
              edit = record {
                block = basic_at st.basic i;
                us = us;
                free = next_free g os f;
                is = ap (λ (bs : List Basic). mk_state (next_free g os f) bs us) (sym (set-get_or st.basic i empty_basic));
                len = simp length-set k.len;
                hold = (
                  h.0,
                  omega (arith, length_snoc es x),
                  h.2,
                  h.3,
                  h.4 ∙ sym (padded_append_le g.sib es (x ∷ []) (omega arith)),
                  rw (drop-append-le g.sib es (x ∷ []) (omega arith))
                      (tail_extend F i os us c cs (drop g.sib es) h.0 x f h.5 (λ j. omega (arith, k.dis j)) l (free_new k)
                      (two_first os p f v u (omega (arith, k.len, k.low p (omega (arith, occurs_last c cs))))
                      (λ q. apart f p (c ∷ cs) (free_new k) (occurs_last c cs) (sym q)))
                      (two_second os p f v u (omega (arith, k.len, free_low k)))
                      (two_else os p f v u)),
                );
                fit = all_append k.fit (all_cons fx all_nil);
                chain =
                    chain_frame g os us (next_free g os f) fs
                    (λ j m.
                    two_else os p f v u j (apart j p (c ∷ cs) (omega (arith, k.dis j)) (occurs_last c cs))
                    (not_in f j fs (λ n. omega (arith, k.dis n)) m))
                    (next_chain fs k);
                others = λ j z.
                    two_else os p f v u j (apart j p (c ∷ cs) (omega arith) (occurs_last c cs)) (λ q. absent f j fs (omega arith) (sym q));
                same = λ j. omega (arith, count_append (eqb j) cs (f ∷ []));
              };
            },
          )

    -- all cases
    pub append_local : (bs fs : List ℕ) → Standing g st i bs fs es → Appended g st i bs fs es x (append g st i bs x)
    unfolding append
    append_local [] [] k =
        let n : ℕ = (basic_at st.basic i).counter in
        cases (ltb n g.sib)
        (λ e. append_basic k (omega (arith, ltb-true n g.sib e)))
        (λ e. rw (e, taking_none _ k) (full k (omega (arith, ltb-false n g.sib e))))
    append_local [] (f ∷ fs) k =
        let n : ℕ = (basic_at st.basic i).counter in
        cases (ltb n g.sib)
        (λ e. append_basic k (omega (arith, ltb-true n g.sib e)))
        (λ e.
        subst (λ (m : ℕ). Standing g st i [] (m ∷ fs) es → Appended g st i [] (m ∷ fs) es x (append g st i [] x)) k.chain.0
        (λ k₂. append_first k₂ (omega (arith, ltb-false n g.sib e)))
        k)
    append_local (c ∷ cs) [] k =
        let n : ℕ = suc (last_block st.overflow c cs).counter in
        cases (ltb n g.sio)
        (λ e. append_last k (ltb-true n g.sio e))
        (λ e. rw (e, taking_none _ k) (full k (tail_full k (ltb-false n g.sio e)).1))
    append_local (c ∷ cs) (f ∷ fs) k =
        let n : ℕ = suc (last_block st.overflow c cs).counter in
        cases (ltb n g.sio)
        (λ e. append_last k (ltb-true n g.sio e))
        (λ e.
        subst (λ (m : ℕ). Standing g st i (c ∷ cs) (m ∷ fs) es → Appended g st i (c ∷ cs) (m ∷ fs) es x (append g st i (c ∷ cs) x)) k.chain.0
        (λ k₂. append_more k₂ (tail_full k (ltb-false n g.sio e)).0)
        k)
