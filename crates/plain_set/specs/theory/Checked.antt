-- A state that passes check's test is sound.
use Rattle.std.specs.Prelude.{◌≡◌, refl, Bool, true, ◌&&◌, ℕ, zero, suc, ◌+◌, ◌-◌, ◌≤◌, ◌<◌, length, take, eqb, ltb}
use Rattle.std.proofs.Common.{sym, ap, ◌∙◌, subst, arith, length-append, length-take, length-take-le, take_all, drop_at, eqb-true, ltb-true, ltb-false}
use mathlib.Core.List.{List, [], ◌∷◌, ◌++◌, append-nil}
use Rattle.std.proofs.Math.Option.{Option, none, some}
use Rattle.laws.specs.Folds.{every, every_below, all_zero}
use Rattle.laws.specs.Cases.{cases, both_true, never}
use Rattle.laws.specs.Tests.{below_at}
use Rattle.laws.specs.Sums.{sum_ext, sum_zero}
use Rattle.settings.specs.declared.layout.Layout.{Layout}
use Rattle.settings.specs.Proper.{Proper}
use Rattle.table.specs.Arrays.{padded}
use Rattle.table.specs.State.{Basic, Overflow, State, mk_overflow, basic_at, overflow_at, empty_block, unpack, own_slots}
use Rattle.table.specs.Follow.{last_of, Content, cons?, is_own, own_blocks, follow, gather, content_over, content_of, content, go_on, step_at}
use Rattle.table.specs.theory.Ways.{Way, way}
use Rattle.table.specs.theory.Ways as ways
use Rattle.table.specs.declared.step.Step.{Step}
use Rattle.table.specs.declared.step.Step.TheVariants.{Last, Further, Damage}
use Rattle.table.specs.Take.{occurs}
use Rattle.plain_set.specs.Rebuilt.{slots_of}
use Rattle.table.specs.Check.{blocks_of, basic_unused, overflow_unused, free_zero, no_entry_twice, list_sound, lists_sound, chain_from, free_chain, occurs_in_lists, chain_sound, state_sound}
use Rattle.plain_set.specs.theory.Count.{one}
use Rattle.table.specs.theory.Formed.{All, all_nil, Fits, Formed, overflow_fits}
use Rattle.table.specs.theory.FormedCalls.{ContentFits, holds_none, holds_some, Holds as Whole, content_holds as content-formed}
use Rattle.table.specs.theory.FormedUpdates.{unpack_each}
use Rattle.plain_set.specs.theory.Pad.{padded_id, padded_append_le, zeros_padded}
use Rattle.plain_set.specs.theory.Rep.{Tail, Holds, Links, Chain, Single, Sound}
use Rattle.plain_set.specs.theory.Tests.{once_single, all_blocks, all_slots, occurs_in_lists_sum, get_or_each, length_each}

-- a block, by its fields
overflow_eta : (o : Overflow) (n l i : ℕ) (es : List ℕ) → o.counter ≡ n → o.link ≡ l → o.owner ≡ i → o.slots ≡ es → o ≡ mk_overflow n l i es
overflow_eta o n l i es p q w r = λ j. record { counter = p j; link = q j; owner = w j; slots = r j }

module _ (g : Layout) where
  -- the blocks c, cs that following passes
  abbrev Path : List Overflow → ℕ → List ℕ → Type 0
  Path os c [] = (c < g.nob) × ((overflow_at os c).counter < g.sio)
  Path os c (d ∷ ds) = (c < g.nob) × ((overflow_at os c).counter ≡ g.sio) × ((overflow_at os c).link ≡ d) × Path os d ds

  abbrev Followed : List Overflow → ℕ → Option (List ℕ) → Type 0
  Followed os b none = Unit {0}
  Followed os b (some []) = ⊥
  Followed os b (some (c ∷ cs)) = (b ≡ c) × Path os c cs

  -- following passes such blocks only
  followed_cons : (os : List Overflow) (b : ℕ) (o : Option (List ℕ)) → Followed os (overflow_at os b).link o → b < g.nob
      → (overflow_at os b).counter ≡ g.sio → Followed os b (cons? b o)
  followed_cons os b none w l e = tt
  followed_cons os b (some []) w l e = absurd w
  followed_cons os b (some (c ∷ cs)) w l e = (refl, (l, e, w.0, w.1))

  followed_step : (n : ℕ) (os : List Overflow) (b : ℕ) → b < g.nob → Followed os (overflow_at os b).link (follow g n os (overflow_at os b).link)
      → (s : Step) → Way g.sio (overflow_at os b).counter (overflow_at os b).link s
      → Followed os b (go_on s (b ∷ []) (λ c. cons? b (follow g n os c)))
  followed_step n os b l w Last (ways.ends e) = (refl, (l, e))
  followed_step n os b l w (Further c) (ways.goes e) = followed_cons os b (follow g n os (overflow_at os b).link) w l e
  followed_step n os b l w Damage (ways.breaks e) = tt

  followed : (n : ℕ) (os : List Overflow) (b : ℕ) → Followed os b (follow g n os b)
  followed zero os b = tt
  followed (suc n) os b =
      cases (ltb b g.nob)
      (λ e. rw e
      (followed_step n os b (ltb-true b g.nob e) (followed n os (overflow_at os b).link) (step_at g os b)
      (way g.sio (overflow_at os b).counter (overflow_at os b).link)))
      (λ e. rw e tt)

  path_first : (os : List Overflow) (c : ℕ) (cs : List ℕ) → Path os c cs → c < g.nob
  path_first os c [] p = p.0
  path_first os c (d ∷ ds) p = p.0

  path_low : (os : List Overflow) (c : ℕ) (cs : List ℕ) (j : ℕ) → Path os c cs → 0 < occurs j (c ∷ cs) → j < g.nob
  path_low os c [] j p l =
      cases (eqb j c) (λ e. let q = eqb-true j c e in omega (arith, p.0)) (λ e. absurd (omega (arith, ap one e)))
  path_low os c (d ∷ ds) j p l =
      cases (eqb j c)
      (λ e. let q = eqb-true j c e in omega (arith, p.0))
      (λ e. path_low os d ds j p.3 (omega (arith, ap one e)))

  -- and those that are left once their owner is tested are the list's own
  abbrev Owned : ℕ → List Overflow → ℕ → Option (List ℕ) → Type 0
  Owned i os b none = Unit {0}
  Owned i os b (some bs) = Followed os b (some bs) × (every (is_own i os) bs ≡ true)

  owned : (i : ℕ) (os : List Overflow) (b : ℕ) → Owned i os b (own_blocks i os (follow g g.nob os b))
  owned i os b = go (follow g g.nob os b) (followed g.nob os b)
    where
      go : (o : Option (List ℕ)) → Followed os b o → Owned i os b (own_blocks i os o)
      go none w = tt
      go (some bs) w = cases (every (is_own i os) bs) (λ e. rw e (w, e)) (λ e. rw e tt)

  -- the blocks that following finds, in any state, are blocks of the table
  list_low : (i : ℕ) (os : List Overflow) (b : Basic) (j : ℕ) → 0 < occurs j (blocks_of (content_of g i b os)) → j < g.nob
  list_low i os b j =
      cases (ltb b.counter (suc g.sib))
      (λ e. rw e (λ h. absurd (omega arith)))
      (λ e.
      cases (eqb b.counter (suc g.sib))
      (λ f. rw (e, f) (over (own_blocks i os (follow g g.nob os b.head)) (owned i os b.head)))
      (λ f. rw (e, f) (λ h. absurd (omega arith))))
    where
      over : (o : Option (List ℕ)) → Owned i os b.head o → 0 < occurs j (blocks_of (content_over g b os o)) → j < g.nob
      over none w h = absurd (omega arith)
      over (some []) w h = absurd w.0
      over (some (c ∷ cs)) w h = path_low os c cs j w.0.1 h

  -- numbers that are all of blocks of the table: no other stands there
  not_above : (j : ℕ) (ns : List ℕ) → ((n : ℕ) → 0 < occurs n ns → n < g.nob) → g.nob ≤ j → occurs j ns ≡ 0
  not_above j ns f l =
      cases (ltb 0 (occurs j ns))
      (λ e. absurd (omega (arith, f j (ltb-true 0 (occurs j ns) e))))
      (λ e. omega (arith, ltb-false 0 (occurs j ns) e))

  none_above : (st : State) (j : ℕ) → g.nob ≤ j → occurs_in_lists g j st ≡ 0
  unfolding content
  none_above st j l =
      sum_ext g.lists (λ i. occurs j (blocks_of (content g st i))) (λ i. 0)
      (λ i h. not_above j (blocks_of (content g st i)) (list_low i st.overflow (basic_at st.basic i)) l)
      ∙ sum_zero g.lists

  -- all slots found have the slots' width
  content_fits : {o : Option Content} → Whole (ContentFits g) o → All (Fits g.slot) (slots_of o)
  content_fits holds_none = all_nil
  content_fits (holds_some v) = v.slots

  list_fits : {st : State} (i : ℕ) → Formed g st → All (Fits g.slot) (slots_of (content g st i))
  list_fits i f = content_fits (content-formed g f i)

  list_single : (b : Basic) (os : List Overflow) (o : Option Content) → list_sound g b os o ≡ true → Single g (slots_of o)
  list_single b os none h = never h
  list_single b os (some v) h =
      once_single g v.slots
      (both_true (every (overflow_unused g os) v.blocks) (no_entry_twice g v.slots)
      (both_true (basic_unused g b v.blocks) (every (overflow_unused g os) v.blocks && no_entry_twice g v.slots) h).1).1

  -- what holds of the free chain that its walk found
  abbrev Linked : List Overflow → ℕ → Option (List ℕ) → Type 0
  Linked os f none = Unit {0}
  Linked os f (some []) = ⊥
  Linked os f (some (n ∷ ns)) =
      (f ≡ n) × (every (free_zero g os) (n ∷ ns) ≡ true → Links g os n ns) × ((j : ℕ) → 0 < occurs j (n ∷ ns) → j < g.nob)

  module _ (os : List Overflow) (sized : (j : ℕ) → j < g.nob → length (overflow_at os j).slots ≡ g.sio) where
    free_block_lem : (f l : ℕ) → f < g.nob → (overflow_at os f).link ≡ l → free_zero g os f ≡ true
        → overflow_at os f ≡ empty_block g l 0
    free_block_lem f l h e z =
        let o : Overflow = overflow_at os f in
        let a = both_true (eqb o.counter 0) (is_own 0 os f && all_zero o.slots) z in
        let c = both_true (is_own 0 os f) (all_zero o.slots) a.1 in
        overflow_eta o 0 l 0 (padded g.sio []) (eqb-true o.counter 0 a.0) e (eqb-true o.owner 0 c.0)
        (zeros_padded o.slots 0 g.sio (sized f h) (omega arith) c.1)

    linked_cons : (f : ℕ) (o : Option (List ℕ)) → Linked os (overflow_at os f).link o → f < g.nob → Linked os f (cons? f o)
    linked_cons f none w l = tt
    linked_cons f (some []) w l = absurd w
    linked_cons f (some (n ∷ ns)) w l = (
      refl,
      (λ z. (
        free_block_lem f n l w.0 (both_true (free_zero g os f) (every (free_zero g os) (n ∷ ns)) z).0,
        w.1 (both_true (free_zero g os f) (every (free_zero g os) (n ∷ ns)) z).1,
      )),
      (λ j h. cases (eqb j f) (λ e. let q = eqb-true j f e in omega arith) (λ e. w.2 j (omega (arith, ap one e)))),
    )

    linked : (n f : ℕ) → Linked os f (chain_from g n os f)
    linked zero f = tt
    linked (suc n) f =
        cases (ltb f g.nob)
        (λ e.
        let low = ltb-true f g.nob e in
        cases (eqb (overflow_at os f).link f)
        (λ k.
        rw (e, k) (
          refl,
          (λ z. free_block_lem f f low (eqb-true (overflow_at os f).link f k) (both_true (free_zero g os f) true z).0),
          (λ j h. cases (eqb j f) (λ q. let p = eqb-true j f q in omega arith) (λ q. absurd (omega (arith, ap one q)))),
        ))
        (λ k. rw (e, k) (linked_cons f (chain_from g n os (overflow_at os f).link) (linked n (overflow_at os f).link) low)))
        (λ e. rw e tt)

  -- and of the free chain as a whole
  abbrev Chained : State → Option (List ℕ) → Type 0
  Chained st none = Unit {0}
  Chained st (some fs) =
      (every (free_zero g st.overflow) fs ≡ true → Chain g st.overflow st.free fs) × ((j : ℕ) → 0 < occurs j fs → j < g.nob)

  chained : (st : State) → Formed g st → Chained st (free_chain g st)
  chained st d =
      cases (eqb st.free g.nob)
      (λ e. rw e ((λ z. eqb-true st.free g.nob e), (λ j h. absurd (omega arith))))
      (λ e. rw e (go (chain_from g g.nob st.overflow st.free) (linked st.overflow (λ j l. (overflow_fits g d j l).slots.long) g.nob st.free)))
    where
      go : (o : Option (List ℕ)) → Linked st.overflow st.free o → Chained st o
      go none w = tt
      go (some []) w = absurd w
      go (some (n ∷ ns)) w = ((λ z. (w.0, w.1 z)), w.2)

module _ {g : Layout} (F : Proper g) where
  module _ (os : List Overflow) (sized : (j : ℕ) → j < g.nob → length (overflow_at os j).slots ≡ g.sio) where
    gather_some : (c : ℕ) (cs : List ℕ) → c < g.nob → 0 < length (gather g os (c ∷ cs))
    gather_some c cs l =
        let o : Overflow = overflow_at os c in
        omega (
          arith,
          length-append (take (suc o.counter) o.slots) (gather g os cs),
          length-take (suc o.counter) o.slots,
          sized c l,
          F.sio_low,
        )

    own : (i c : ℕ) (cs : List ℕ) → every (is_own i os) (c ∷ cs) ≡ true → (overflow_at os c).owner ≡ i
    own i c cs w = eqb-true (overflow_at os c).owner i (both_true (is_own i os c) (every (is_own i os) cs) w).0

    -- such blocks of one list, with zeros where slots are unused, hold the slots that following gathers
    path_tail : (i c : ℕ) (cs : List ℕ) → Path g os c cs → every (is_own i os) (c ∷ cs) ≡ true → every (overflow_unused g os) (c ∷ cs) ≡ true
        → Tail g i os c cs (gather g os (c ∷ cs)) (overflow_at os (last_of c cs)).link
    path_tail i c [] p w z =
        let o : Overflow = overflow_at os c in
        let xs : List ℕ = take (suc o.counter) o.slots in
        let t : length xs ≡ suc o.counter = length-take-le (suc o.counter) o.slots (omega (arith, sized c p.0, p.1)) in
        rw append-nil (
          omega arith,
          omega (arith, p.1),
          overflow_eta o (length xs - 1) o.link i (padded g.sio xs) (omega arith) refl (own i c [] w)
              (zeros_padded o.slots (suc o.counter) g.sio (sized c p.0) p.1 (both_true (overflow_unused g os c) true z).0),
        )
    path_tail i c (d ∷ ds) p w z =
        let o : Overflow = overflow_at os c in
        let s : length o.slots ≡ g.sio = sized c p.0 in
        let whole : take (suc o.counter) o.slots ≡ o.slots = take_all (suc o.counter) o.slots (omega (arith, p.1)) in
        let later : List ℕ = gather g os (d ∷ ds) in
        let v : ℕ = (overflow_at os (last_of d ds)).link in
        rw whole (
          omega (arith, length-append o.slots later, gather_some d ds (path_first g os d ds p.3)),
          overflow_eta o g.sio d i (padded g.sio (o.slots ++ later)) p.1 p.2 (own i c (d ∷ ds) w)
              (sym (padded_append_le g.sio o.slots later (omega arith) ∙ padded_id g.sio o.slots s)),
          subst (λ (xs : List ℕ). Tail g i os d ds xs v) (sym (drop_at o.slots later g.sio s))
              (path_tail i d ds p.3 (both_true (is_own i os c) (every (is_own i os) (d ∷ ds)) w).1
              (both_true (overflow_unused g os c) (every (overflow_unused g os) (d ∷ ds)) z).1),
        )

    -- a list that passes its test stands as the blocks and slots that were found
    list_holds : (i : ℕ) (b : Basic) → list_sound g b os (content_of g i b os) ≡ true
        → Holds g i b os (blocks_of (content_of g i b os)) (slots_of (content_of g i b os))
    list_holds i b =
        cases (ltb b.counter (suc g.sib))
        (λ e.
        rw e
        (λ h.
        let all : List ℕ = own_slots g b in
        let s : length all ≡ g.sib = (unpack_each g b.head b.rest).long in
        let l : b.counter < suc g.sib = ltb-true b.counter (suc g.sib) e in
        let t : length (take b.counter all) ≡ b.counter = length-take-le b.counter all (omega arith) in
        (omega arith, omega arith, zeros_padded all b.counter g.sib s (omega arith) (both_true (basic_unused g b []) _ h).0)))
        (λ e.
        cases (eqb b.counter (suc g.sib))
        (λ f.
        rw (e, f)
        (over (own_blocks i os (follow g g.nob os b.head)) (owned g i os b.head) (eqb-true b.counter (suc g.sib) f)))
        (λ f. rw (e, f) (λ h. never h)))
      where
        over : (o : Option (List ℕ)) → Owned g i os b.head o → b.counter ≡ suc g.sib → list_sound g b os (content_over g b os o) ≡ true
            → Holds g i b os (blocks_of (content_over g b os o)) (slots_of (content_over g b os o))
        over none w f h = never h
        over (some []) w f h = absurd w.0
        over (some (c ∷ cs)) w f h =
            let d : ℕ = (overflow_at os (last_of c cs)).link in
            let base : List ℕ = unpack g d b.rest in
            let later : List ℕ = gather g os (c ∷ cs) in
            let l : length base ≡ g.sib = (unpack_each g d b.rest).long in (
              d,
              omega (arith, length-append base later, gather_some c cs (path_first g os c cs w.0.1)),
              f,
              w.0.0,
              sym (padded_append_le g.sib base later (omega arith) ∙ padded_id g.sib base l),
              subst (λ (xs : List ℕ). Tail g i os c cs xs d) (sym (drop_at base later g.sib l))
                  (path_tail i c cs w.0.1 w.1 (both_true (every (overflow_unused g os) (c ∷ cs)) (no_entry_twice g (base ++ later)) h).0),
            )

  -- check's test passes: the state holds the lists that following finds, each block once, each entry once in its list
  pub check_sound : (st : State) → Formed g st → state_sound g st ≡ true → Sound g st
  unfolding state_sound content
  check_sound st d h = go (free_chain g st) (chained g st d) (both_true (lists_sound g st) (chain_sound g st (free_chain g st)) h).1
    where
      os : List Overflow
      os = st.overflow

      basic : ℕ → Basic
      basic i = basic_at st.basic i

      ok_at : (i : ℕ) → i < g.lists → list_sound g (basic i) os (content g st i) ≡ true
      ok_at i l =
          below_at g.lists (λ i. list_sound g (basic i) os (content g st i))
          (both_true (lists_sound g st) (chain_sound g st (free_chain g st)) h).0 i l

      go : (o : Option (List ℕ)) → Chained g st o → chain_sound g st o ≡ true → Sound g st
      go none w z = never z
      go (some fs) w z =
          record {
            T = all_slots g st;
            B = all_blocks g st;
            fs = fs;
            rep = record {
              basics = d.basic.long;
              overs = d.overflow.long;
              lists = length_each g slots_of st;
              blocks = length_each g blocks_of st;
              each = λ i l.
                  rw (get_or_each g slots_of st i [] l, get_or_each g blocks_of st i [] l)
                  (list_holds os (λ j l. (overflow_fits g d j l).slots.long) i (basic i) (ok_at i l));
              fits = λ i l. rw (get_or_each g slots_of st i [] l) (list_fits g i d);
              chain = w.0 (both_true zeroed (every_below g.nob one_each) z).0;
              once = λ j.
                  cases (ltb j g.nob)
                  (λ e.
                  let q : occurs_in_lists g j st + occurs j fs ≡ 1 =
                  eqb-true (occurs_in_lists g j st + occurs j fs) 1
                  (below_at g.nob one_each (both_true zeroed (every_below g.nob one_each) z).1 j (ltb-true j g.nob e)) in
                  omega (arith, occurs_in_lists_sum g j st, ap one e))
                  (λ e.
                  let l = ltb-false j g.nob e in
                  omega (arith, occurs_in_lists_sum g j st, ap one e, none_above g st j l, not_above g j fs w.1 l));
            };
            single = λ i l.
                rw (get_or_each g slots_of st i [] l)
                (list_single g (basic i) os (content g st i) (ok_at i l));
          }
        where
          zeroed : Bool
          zeroed = every (free_zero g os) fs

          one_each : ℕ → Bool
          one_each j = eqb (occurs_in_lists g j st + occurs j fs) 1
