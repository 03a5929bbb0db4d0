-- Relabel and delete on one list: a slot overwritten, and the last slot off.
use Rattle.std.specs.Prelude.{◌≡◌, refl, take, drop, ltb}
use Rattle.std.proofs.Math.Path.{sym, ap, ap₂}
use Rattle.std.proofs.Common.{◌∙◌, drop-set-lt, pow_pos}
use mathlib.Core.List.{List, [], ◌∷◌}
use Prim.Native.Nat.{ℕ, suc, ◌-◌, ◌≤◌, ◌<◌}
use native.Mathlib.Omega.{arith}
use Rattle.std.proofs.Math.ListN.{length, set, length-drop, length-set}
use Rattle.std.proofs.Math.Seq.{length-take-le}
use Rattle.std.proofs.lemmas.List.{set-get_or}
use borrow.Author.Tests.{eq-eqb, ne_eqb, lt-ltb, le-ltb, ltb-true, ltb-false}
use Rattle.laws.specs.Cases.{cases}
use Rattle.laws.specs.Sums.{occurs_head}
use Rattle.settings.specs.declared.layout.Layout.{Layout}
use Rattle.settings.specs.Proper.{Proper}
use Rattle.table.specs.Arrays.{padded}
use Rattle.table.specs.State.{Basic, Overflow, State, mk_state, empty_basic, basic_at, overflow_at, empty_block, unpack, head_of, rest_of}
use Rattle.table.specs.Updates.{with_link, with_front, with_basic_front, with_rest, over_basic, over_overflow}
use Rattle.table.specs.Follow.{last_of, prev_of}
use Rattle.table.specs.Take.{occurs, link_free, freed}
use Rattle.table.specs.theory.FormedCalls.{prior_is}
use Rattle.table.specs.Delete.{last_slot_off, basic_slot_off, handed_back, shrink_at, cannot_free, shrink}
use Rattle.table.specs.Done.{Done, damage, no_block, done}
use Rattle.table.specs.Store.{slot_in, store_overflow, store_at}
use Rattle.plain_set.specs.theory.Count.{one}
use Rattle.table.specs.theory.Formed.{Fits, all_set, all_take}
use Rattle.plain_set.specs.theory.Pad.{padded_set, padded_set_out, padded_init, padded_init_out, drop_take, drop_set_ge}
use Rattle.plain_set.specs.theory.Slots.{unpack_set}
use Rattle.plain_set.specs.theory.Rep.{Holds, Chain}
use Rattle.plain_set.specs.theory.Follow.{tail_last, last_link}
use Rattle.plain_set.specs.theory.Update.{set_here, set_there, two_first, two_second, two_else, links_frame, chain_frame, Standing, Edit, Edited}
use Rattle.plain_set.specs.theory.Tails.{occurs_last, apart, but_last, occurs_but_last, occurs_prev, last_block, tail_relink, tail_shrink, tail_drop, store_else, store_length, tail_store}

-- A slot overwritten -----------------------------------------------------------------------------------------------------

module _ {g : Layout} {st : State} {i : ℕ} {es : List ℕ} (p x : ℕ) (l : p < length es) (fx : Fits g.slot x) where
  store_basic : {fs : List ℕ} → Standing g st i [] fs es → Edit g st i [] fs [] fs (set es p x) (store_at g st i [] p x)
  unfolding store_at
  store_basic {fs} k =
      let b : Basic = basic_at st.basic i in
      record {
        block = slot_in g p x b;
        us = st.overflow;
        free = st.free;
        is = refl;
        len = k.len;
        hold = (
          omega (arith, length-set es p x),
          omega (arith, length-set es p x),
          unpack_set g b.head b.rest p x fx
              ∙ ap (λ (ys : List ℕ). set ys p x) k.hold.2
              ∙ sym (padded_set g.sib es p x l (omega arith)),
        );
        fit = all_set k.fit p fx;
        chain = k.chain;
        others = λ j z. refl;
        same = λ j. refl;
      }

  -- the place is in the basic block of a list that overflows: the first bits of its slots are in the last block's link
  store_low : {c : ℕ} {cs fs : List ℕ} → Standing g st i (c ∷ cs) fs es → p < g.sib
      → Edit g st i (c ∷ cs) fs (c ∷ cs) fs (set es p x) (store_at g st i (c ∷ cs) p x)
  unfolding store_at
  store_low {c} {cs} {fs} k m =
      let b : Basic = basic_at st.basic i in
      let os : List Overflow = st.overflow in
      let h : Holds g i b os (c ∷ cs) es = k.hold in
      let n : ℕ = last_of c cs in
      let o : Overflow = overflow_at os n in
      let body : List ℕ = set (unpack g o.link b.rest) p x in
      let v : Overflow = with_link (head_of g body) o in
      let was : unpack g o.link b.rest ≡ padded g.sib es =
      ap (λ (d : ℕ). unpack g d b.rest) (last_link g i os c cs (drop g.sib es) h.0 h.5) ∙ h.4 in
      rw (lt-ltb p g.sib m)
      record {
        block = with_rest (rest_of g body) b;
        us = set os n v;
        free = st.free;
        is = refl;
        len = simp length-set k.len;
        hold = (
          head_of g body,
          omega (arith, length-set es p x),
          h.2,
          h.3,
          unpack_set g o.link b.rest p x fx ∙ ap (λ (ys : List ℕ). set ys p x) was ∙ sym (padded_set g.sib es p x l m),
          rw (drop-set-lt g.sib es p x m)
              (tail_relink g i os (set os n v) c cs (drop g.sib es) h.0 (head_of g body) h.5 (λ j. omega (arith, k.dis j))
              (set_here os n v (omega (arith, k.len, k.low n (omega (arith, occurs_last c cs)))))
              (set_there os n v)),
        );
        fit = all_set k.fit p fx;
        chain =
            chain_frame g os (set os n v) st.free fs
            (λ j z. set_there os n v j (apart j n (c ∷ cs) (omega (arith, k.dis j)) (occurs_last c cs)))
            k.chain;
        others = λ j z. set_there os n v j (apart j n (c ∷ cs) (omega arith) (occurs_last c cs));
        same = λ j. refl;
      }

  -- the place is in an overflow block
  store_high : {c : ℕ} {cs fs : List ℕ} → Standing g st i (c ∷ cs) fs es → g.sib ≤ p
      → Edit g st i (c ∷ cs) fs (c ∷ cs) fs (set es p x) (store_at g st i (c ∷ cs) p x)
  unfolding store_at
  store_high {c} {cs} {fs} k m =
      let os : List Overflow = st.overflow in
      let h : Holds g i (basic_at st.basic i) os (c ∷ cs) es = k.hold in
      let q : ℕ = p - g.sib in
      let us : List Overflow = store_overflow g os (c ∷ cs) q x in
      rw (le-ltb p g.sib m)
      record {
        block = basic_at st.basic i;
        us = us;
        free = st.free;
        is = ap (λ (bs : List Basic). mk_state st.free bs us) (sym (set-get_or st.basic i empty_basic));
        len = store_length g os (c ∷ cs) q x ∙ k.len;
        hold = (
          h.0,
          omega (arith, length-set es p x),
          h.2,
          h.3,
          h.4 ∙ sym (padded_set_out g.sib es p x m),
          rw (drop_set_ge g.sib es p x m)
              (tail_store g i os c cs (drop g.sib es) h.0 q x h.5 (λ j. omega (arith, k.dis j))
              (λ j z. omega (arith, k.len, k.low j (omega arith)))
              (omega (arith, length-drop g.sib es))),
        );
        fit = all_set k.fit p fx;
        chain = chain_frame g os us st.free fs (λ j z. store_else g os (c ∷ cs) q x j (omega (arith, k.dis j))) k.chain;
        others = λ j z. store_else g os (c ∷ cs) q x j (omega arith);
        same = λ j. refl;
      }

  -- all cases: the blocks stay
  pub store_local : (bs : List ℕ) {fs : List ℕ} → Standing g st i bs fs es → Edit g st i bs fs bs fs (set es p x) (store_at g st i bs p x)
  store_local [] k = store_basic k
  store_local (c ∷ cs) k =
      cases (ltb p g.sib) (λ e. store_low k (ltb-true p g.sib e)) (λ e. store_high k (ltb-false p g.sib e))

-- Shrink -----------------------------------------------------------------------------------------------------------------

module _ (g : Layout) where
  -- how the last slot goes off: always done
  abbrev pub Shrunk : State → ℕ → List ℕ → List ℕ → List ℕ → Done → Type 0
  Shrunk st i bs fs es damage = ⊥
  Shrunk st i bs fs es no_block = ⊥
  Shrunk st i bs fs es (done u) = Edited g st i bs fs es u

module _ {g : Layout} {st : State} {i : ℕ} {bs es : List ℕ} where
  free_le : (fs : List ℕ) → Standing g st i bs fs es → st.free ≤ g.nob
  free_le [] k = omega arith
  free_le (n ∷ ns) k = omega (arith, k.chain.0, k.low n (omega (arith, occurs_head n ns)))

  -- a block l to the front of the free chain
  chain_put : (us : List Overflow) (fs : List ℕ) (l : ℕ) → Standing g st i bs fs es
      → overflow_at us l ≡ empty_block g (link_free g st.free l) 0
      → ((j : ℕ) → 0 < occurs j fs → overflow_at us j ≡ overflow_at st.overflow j)
      → Chain g us l (l ∷ fs)
  chain_put us [] l k e rest = (refl, e ∙ rw (eq-eqb st.free g.nob k.chain))
  chain_put us (n ∷ ns) l k e rest = (
    refl,
    (
      e
          ∙ rw (ne_eqb st.free g.nob (λ q. omega (arith, k.chain.0, k.low n (omega (arith, occurs_head n ns)))))
          (ap (λ (m : ℕ). empty_block g m 0) k.chain.0),
      links_frame g st.overflow us n ns rest k.chain.1,
    ),
  )

module _ {g : Layout} (F : Proper g) {st : State} {i : ℕ} {es : List ℕ} (m : ℕ) (l : length es ≡ suc m) where
  shrink_basic : {fs : List ℕ} → Standing g st i [] fs es → Shrunk g st i [] fs (take m es) (shrink g st i [])
  unfolding shrink
  shrink_basic {fs} k =
      let b : Basic = basic_at st.basic i in
      let t : length (take m es) ≡ m = length-take-le m es (omega arith) in
      let e : b.counter - 1 ≡ m = omega arith in
      record {
        cs = [];
        ns = fs;
        edit = record {
          block = basic_slot_off g b;
          us = st.overflow;
          free = st.free;
          is = refl;
          len = k.len;
          hold = (
            omega arith,
            omega arith,
            unpack_set g b.head b.rest (b.counter - 1) 0 (pow_pos g.slot)
                ∙ ap₂ (λ (ys : List ℕ) (n : ℕ). set ys n 0) k.hold.2 e
                ∙ sym (padded_init g.sib es m l (omega arith)),
          );
          fit = all_take m k.fit;
          chain = k.chain;
          others = λ j z. refl;
          same = λ j. refl;
        };
      }

  -- the last block keeps some slots
  shrink_keep : {c : ℕ} {cs fs : List ℕ} → Standing g st i (c ∷ cs) fs es → 0 < (last_block st.overflow c cs).counter
      → Edited g st i (c ∷ cs) fs (take m es)
      (over_overflow (last_of c cs) last_slot_off st)
  shrink_keep {c} {cs} {fs} k some_left =
      let os : List Overflow = st.overflow in
      let h : Holds g i (basic_at st.basic i) os (c ∷ cs) es = k.hold in
      let n : ℕ = last_of c cs in
      let v : Overflow = last_slot_off (overflow_at os n) in
      let t : length (take m es) ≡ m = length-take-le m es (omega arith) in
      let long = tail_last g i os c cs (drop g.sib es) h.0 h.5 in
      let dl = length-drop g.sib es in
      record {
        cs = c ∷ cs;
        ns = fs;
        edit = record {
          block = basic_at st.basic i;
          us = set os n v;
          free = st.free;
          is = ap (λ (bs : List Basic). mk_state st.free bs (set os n v)) (sym (set-get_or st.basic i empty_basic));
          len = simp length-set k.len;
          hold = (
            h.0,
            omega arith,
            h.2,
            h.3,
            h.4 ∙ sym (padded_init_out g.sib es m (omega arith)),
            rw (drop_take g.sib m es)
                (tail_shrink g i os (set os n v) c cs (drop g.sib es) h.0 (m - g.sib) h.5 (λ j. omega (arith, k.dis j)) some_left
                (omega arith)
                (set_here os n v (omega (arith, k.len, k.low n (omega (arith, occurs_last c cs)))))
                (set_there os n v)),
          );
          fit = all_take m k.fit;
          chain =
              chain_frame g os (set os n v) st.free fs
              (λ j z. set_there os n v j (apart j n (c ∷ cs) (omega (arith, k.dis j)) (occurs_last c cs)))
              k.chain;
          others = λ j z. set_there os n v j (apart j n (c ∷ cs) (omega arith) (occurs_last c cs));
          same = λ j. refl;
        };
      }

  -- the only overflow block is freed: the first bits of the basic block's slots go back
  shrink_back : {c : ℕ} {fs : List ℕ} → Standing g st i (c ∷ []) fs es → (overflow_at st.overflow c).counter ≡ 0
      → Edited g st i (c ∷ []) fs (take m es)
      (freed g c (over_basic i (with_basic_front g.sib (overflow_at st.overflow c).link) st))
  shrink_back {c} {fs} k single =
      let b : Basic = basic_at st.basic i in
      let os : List Overflow = st.overflow in
      let h : Holds g i b os (c ∷ []) es = k.hold in
      let v : Overflow = empty_block g (link_free g st.free c) 0 in
      let t : length (take m es) ≡ m = length-take-le m es (omega arith) in
      let long = tail_last g i os c [] (drop g.sib es) h.0 h.5 in
      let sized : m ≡ g.sib = omega (arith, length-drop g.sib es, h.1) in
      record {
        cs = [];
        ns = c ∷ fs;
        edit = record {
          block = with_basic_front g.sib (overflow_at os c).link b;
          us = set os c v;
          free = c;
          is = refl;
          len = simp length-set k.len;
          hold = (
            omega arith,
            omega arith,
            ap (λ (n : ℕ). unpack g n b.rest) (last_link g i os c [] (drop g.sib es) h.0 h.5)
                ∙ h.4
                ∙ sym (padded_init_out g.sib es m (omega arith)),
          );
          fit = all_take m k.fit;
          chain =
              chain_put (set os c v) fs c k
              (set_here os c v (omega (arith, k.len, k.low c (omega (arith, occurs_head c [])))))
              (λ j z. set_there os c v j (apart j c (c ∷ []) (omega (arith, k.dis j)) (occurs_head c [])));
          others = λ j z. set_there os c v j (apart j c (c ∷ []) (omega arith) (occurs_head c []));
          same = λ j. omega arith;
        };
      }

  -- the last of several overflow blocks is freed: its link goes to the one before
  shrink_free : {c d : ℕ} {ds fs : List ℕ} → Standing g st i (c ∷ d ∷ ds) fs es → (last_block st.overflow d ds).counter ≡ 0
      → Edited g st i (c ∷ d ∷ ds) fs (take m es)
      (freed g (last_of d ds) (over_overflow (prev_of c d ds) (with_front (g.sio - 1) (last_block st.overflow d ds).link) st))
  shrink_free {c} {d} {ds} {fs} k single =
      let os : List Overflow = st.overflow in
      let h : Holds g i (basic_at st.basic i) os (c ∷ d ∷ ds) es = k.hold in
      let n : ℕ = last_of d ds in
      let p : ℕ = prev_of c d ds in
      let v : Overflow = with_front (g.sio - 1) (overflow_at os n).link (overflow_at os p) in
      let u : Overflow = empty_block g (link_free g st.free n) 0 in
      let us : List Overflow = set (set os p v) n u in
      let t : length (take m es) ≡ m = length-take-le m es (omega arith) in
      let dl = length-drop g.sib es in
      let last-in : 0 < occurs n (c ∷ d ∷ ds) = omega (arith, occurs_last d ds) in
      let prev-in : 0 < occurs p (c ∷ d ∷ ds) = omega (arith, occurs_prev c d ds, occurs_but_last p d ds) in
      record {
        cs = c ∷ but_last d ds;
        ns = n ∷ fs;
        edit = record {
          block = basic_at st.basic i;
          us = us;
          free = n;
          is = ap (λ (bs : List Basic). mk_state n bs us) (sym (set-get_or st.basic i empty_basic));
          len = simp length-set k.len;
          hold = (
            h.0,
            omega (arith, h.5.0),
            h.2,
            h.3,
            h.4 ∙ sym (padded_init_out g.sib es m (omega arith)),
            rw (drop_take g.sib m es)
                (tail_drop F i os us c d ds (drop g.sib es) h.0 (m - g.sib) h.5 (λ j. omega (arith, k.dis j)) single (omega arith)
                (two_first os p n v u (omega (arith, k.len, k.low p (omega arith)))
                (λ q. omega (arith, occurs_prev c d ds, occurs_but_last p d ds, k.dis p, ap one (eq-eqb p n q))))
                (two_else os p n v u)),
          );
          fit = all_take m k.fit;
          chain =
              chain_put us fs n k
              (two_second os p n v u (omega (arith, k.len, k.low n (omega arith))))
              (λ j z.
              two_else os p n v u j (apart j p (c ∷ d ∷ ds) (omega (arith, k.dis j)) prev-in)
              (apart j n (c ∷ d ∷ ds) (omega (arith, k.dis j)) last-in));
          others = λ j z.
              two_else os p n v u j (apart j p (c ∷ d ∷ ds) (omega arith) prev-in) (apart j n (c ∷ d ∷ ds) (omega arith) last-in);
          same = λ j. omega (arith, occurs_but_last j d ds);
        };
      }

  -- all cases
  pub shrink_local : (bs fs : List ℕ) → Standing g st i bs fs es → Shrunk g st i bs fs (take m es) (shrink g st i bs)
  unfolding shrink cannot_free shrink_at handed_back
  shrink_local [] fs k = shrink_basic k
  shrink_local (c ∷ []) fs k =
      let n : ℕ = (overflow_at st.overflow c).counter in
      cases (ltb 0 n)
      (λ e. rw e (shrink_keep k (ltb-true 0 n e)))
      (λ e. rw (e, le-ltb g.nob st.free (free_le fs k))
      (shrink_back k (omega (arith, ltb-false 0 n e))))
  shrink_local (c ∷ d ∷ ds) fs k =
      let n : ℕ = (last_block st.overflow d ds).counter in
      cases (ltb 0 n)
      (λ e. rw e (shrink_keep k (ltb-true 0 n e)))
      (λ e. rw (e, le-ltb g.nob st.free (free_le fs k), prior_is c d ds)
      (shrink_free k (omega (arith, ltb-false 0 n e))))
