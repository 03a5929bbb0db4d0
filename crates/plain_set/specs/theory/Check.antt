-- A sound state passes check's test: so the test says exactly that the state is sound.
use Rattle.std.specs.Prelude.{◌≡◌, refl, true, ◌&&◌, ℕ, zero, suc, ◌+◌, ◌-◌, ◌≤◌, ◌<◌, length, get_or, drop, ltb}
use Rattle.std.proofs.Common.{sym, ap, ◌∙◌, arith, drop_of_length-le}
use mathlib.Core.List.{List, [], ◌∷◌}
use Rattle.std.proofs.Math.Option.{Option, some}
use Rattle.std.proofs.Math.Dec.{eqb}
use borrow.Author.Tests.{eq-eqb, ne_eqb, lt-ltb}
use Rattle.laws.specs.Folds.{every, all_zero, sum_below}
use Rattle.laws.specs.Cases.{both_true, true_both}
use Rattle.laws.specs.Tests.{below_all}
use Rattle.laws.specs.Sums.{occurs_head, sum_ext}
use Rattle.settings.specs.declared.layout.Layout.{Layout}
use Rattle.table.specs.Arrays.{padded}
use Rattle.table.specs.State.{Basic, Overflow, State, basic_at, overflow_at}
use Rattle.table.specs.Follow.{Content, mk_content, content}
use Rattle.table.specs.Take.{occurs}
use Rattle.table.specs.Check.{blocks_of, basic_unused, overflow_unused, free_zero, list_sound, lists_sound, chain_from, free_chain, occurs_in_lists, state_sound}
use Rattle.plain_set.specs.theory.Count.{one, one_le, sum, sum_below_list}
use Rattle.plain_set.specs.theory.Blocks.{below, blocks_total}
use Rattle.plain_set.specs.theory.Pad.{length_padded, padded_zeros}
use Rattle.plain_set.specs.theory.Rep.{Tail, Holds, Links, Chain, Rep, Sound}
use Rattle.plain_set.specs.theory.Tails.{not_in}
use Rattle.plain_set.specs.theory.Change.{rep_content}
use Rattle.plain_set.specs.theory.Tests.{single_once}

module _ (g : Layout) where
  -- a full block has no unused slots
  padded_none : (n : ℕ) (es : List ℕ) → all_zero (drop (suc n) (padded n es)) ≡ true
  padded_none n es = rw (drop_of_length-le (padded n es) {i = suc n} (omega (arith, length_padded n es)))

  -- the unused slots of a list's blocks are zero
  tail_unused : (i : ℕ) (os : List Overflow) (b : ℕ) (bs : List ℕ) (es : List ℕ) (d : ℕ) → Tail g i os b bs es d
      → every (overflow_unused g os) (b ∷ bs) ≡ true
  tail_unused i os b [] es d h =
      let e : suc (length es - 1) ≡ length es = omega arith in
      true_both {a = overflow_unused g os b} (rw (h.2, e) (padded_zeros g.sio es)) refl
  tail_unused i os b (c ∷ cs) es d h =
      true_both {a = overflow_unused g os b} (rw h.1 (padded_none g.sio es))
      (tail_unused i os c cs (drop g.sio es) d h.2)

  holds_unused : (i : ℕ) (b : Basic) (os : List Overflow) (bs : List ℕ) (es : List ℕ) → Holds g i b os bs es
      → basic_unused g b bs && every (overflow_unused g os) bs ≡ true
  holds_unused i b os [] es h = true_both {a = basic_unused g b []} (rw (h.2, h.1) (padded_zeros g.sib es)) refl
  holds_unused i b os (c ∷ cs) es h = tail_unused i os c cs (drop g.sib es) h.0 h.5

  -- the walk along the free chain finds it
  chain_links : (n : ℕ) (os : List Overflow) (f : ℕ) (fs : List ℕ) → Links g os f fs → ((j : ℕ) → occurs j (f ∷ fs) ≤ 1)
      → ((j : ℕ) → 0 < occurs j (f ∷ fs) → j < g.nob) → length fs < n → chain_from g n os f ≡ some (f ∷ fs)
  chain_links zero os f fs h dis low l = absurd (omega arith)
  chain_links (suc n) os f [] h dis low l =
      rw (lt-ltb f g.nob (low f (occurs_head f [])), eq-eqb (overflow_at os f).link f (ap (λ (o : Overflow). o.link) h))
  chain_links (suc n) os f (m ∷ ms) h dis low l =
      let e : (overflow_at os f).link ≡ m = ap (λ (o : Overflow). o.link) h.0 in
      rw (
        lt-ltb f g.nob (low f (occurs_head f (m ∷ ms))),
        ne_eqb (overflow_at os f).link f (λ q. not_in f m (m ∷ ms) dis (occurs_head m ms) (sym e ∙ q)),
        e,
        chain_links n os m ms h.1 (λ j. omega (arith, dis j)) (λ j k. low j (omega arith)) (omega arith),
      )

  -- free blocks are zeroed
  links_zero : (os : List Overflow) (f : ℕ) (fs : List ℕ) → Links g os f fs → every (free_zero g os) (f ∷ fs) ≡ true
  links_zero os f [] h = true_both {a = free_zero g os f} (rw h (padded_zeros g.sio [])) refl
  links_zero os f (m ∷ ms) h =
      true_both {a = free_zero g os f} (rw h.0 (padded_zeros g.sio [])) (links_zero os m ms h.1)

  chain_zero : (os : List Overflow) (f : ℕ) (fs : List ℕ) → Chain g os f fs → every (free_zero g os) fs ≡ true
  chain_zero os f [] h = refl
  chain_zero os f (m ∷ ms) h = links_zero os m ms h.1

  free_is : (st : State) (fs : List ℕ) → Chain g st.overflow st.free fs → ((j : ℕ) → occurs j fs ≤ 1)
      → ((j : ℕ) → 0 < occurs j fs → j < g.nob) → length fs ≤ g.nob → free_chain g st ≡ some fs
  free_is st [] h dis low l = rw (eq-eqb st.free g.nob h)
  free_is st (m ∷ ms) h dis low l =
      rw (ne_eqb st.free g.nob (λ q. omega (arith, h.0, low m (occurs_head m ms))), h.0)
      (chain_links g.nob st.overflow m ms h.1 dis low l)

  pub sound_check : (st : State) → Sound g st → state_sound g st ≡ true
  unfolding state_sound
  sound_check st o =
      true_both lists_fine
      (rw (free_is st fs r.chain dis low (omega (arith, blocks_total g.nob o.B fs r.once)))
      (true_both
      (chain_zero os st.free fs r.chain)
      (below_all g.nob (λ j. eqb (occurs_in_lists g j st + occurs j fs) 1)
      (λ j l. eq-eqb (occurs_in_lists g j st + occurs j fs) 1 (one_each j l)))))
    where
      os : List Overflow
      os = st.overflow

      fs : List ℕ
      fs = o.fs

      r : Rep g st o.T o.B o.fs
      r = o.rep

      dis : (j : ℕ) → occurs j fs ≤ 1
      dis j = omega (arith, r.once j, one_le (ltb j g.nob))

      low : (j : ℕ) → 0 < occurs j fs → j < g.nob
      low j l = below j g.nob (omega (arith, r.once j))

      -- the lists' blocks are those that following finds
      occurs_is : (j : ℕ) → occurs_in_lists g j st ≡ sum (occurs j) o.B
      occurs_is j =
          sum_ext g.lists (λ i. occurs j (blocks_of (content g st i))) (λ i. occurs j (get_or o.B i []))
          (λ i l. ap (λ (v : Option Content). occurs j (blocks_of v)) (rep_content r i l))
          ∙ ap (λ (n : ℕ). sum_below n (λ i. occurs j (get_or o.B i []))) (sym r.blocks)
          ∙ sum_below_list (occurs j) o.B []

      one_each : (j : ℕ) → j < g.nob → occurs_in_lists g j st + occurs j fs ≡ 1
      one_each j l = omega (arith, occurs_is j, r.once j, ap one (lt-ltb j g.nob l))

      list_fine : (i : ℕ) → i < g.lists → list_sound g (basic_at st.basic i) os (some (mk_content (get_or o.B i []) (get_or o.T i []))) ≡ true
      list_fine i l =
          let b : Basic = basic_at st.basic i in
          let cs : List ℕ = get_or o.B i [] in
          let es : List ℕ = get_or o.T i [] in
          let z = holds_unused i b os cs es (r.each i l) in
          true_both
          (both_true (basic_unused g b cs) (every (overflow_unused g os) cs) z).0
          (true_both
          (both_true (basic_unused g b cs) (every (overflow_unused g os) cs) z).1
          (single_once g es (o.single i l)))

      lists_fine : lists_sound g st ≡ true
      lists_fine =
          below_all g.lists (λ i. list_sound g (basic_at st.basic i) os (content g st i)) (λ i l. rw (rep_content r i l) (list_fine i l))
