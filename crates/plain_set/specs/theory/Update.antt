-- A call changes one list and the free chain. What it leaves alone still stands; so it is enough to know the list, the chain and the blocks of
-- both.
use Rattle.std.specs.Prelude.{◌≡◌, ◌≢◌, List, [], ◌∷◌, ℕ, ◌+◌, ◌≤◌, ◌<◌, length, get_or, set, drop, eqb, ltb}
use Rattle.std.proofs.Common.{sym, ◌∙◌, subst, arith, length-set, get_or-set_same, get_or-set_other, eqb-true}
use Rattle.std.proofs.lemmas.Bool.{eqb-false}
use Rattle.laws.specs.Cases.{cases}
use Rattle.laws.specs.Sums.{occurs_head}
use Rattle.settings.specs.declared.layout.Layout.{Layout}
use Rattle.table.specs.State.{Basic, Overflow, State, mk_state, basic_at, overflow_at, empty_basic, absent_block}
use Rattle.table.specs.Take.{occurs}
use Rattle.table.specs.theory.Formed.{All, Fits}
use Rattle.plain_set.specs.theory.Count.{one_le, sum, sum_set, sum_at, sum_two}
use Rattle.plain_set.specs.theory.Blocks.{below}
use Rattle.plain_set.specs.theory.Rep.{Tail, Holds, Links, Chain, Rep}

-- blocks after a store
module _ (os : List Overflow) (l : ℕ) (v : Overflow) where
  pub set_here : l < length os → overflow_at (set os l v) l ≡ v
  set_here h = get_or-set_same os l v absent_block h

  pub set_there : (j : ℕ) → j ≢ l → overflow_at (set os l v) j ≡ overflow_at os j
  set_there j ne = get_or-set_other os l j v absent_block ne

-- blocks after two stores, at p and at f
module _ (os : List Overflow) (p f : ℕ) (v u : Overflow) where
  pub two_first : p < length os → p ≢ f → overflow_at (set (set os p v) f u) p ≡ v
  two_first l ne = set_there (set os p v) f u p ne ∙ set_here os p v l

  pub two_second : f < length os → overflow_at (set (set os p v) f u) f ≡ u
  two_second l = set_here (set os p v) f u (omega (arith, length-set os p v))

  pub two_else : (j : ℕ) → j ≢ p → j ≢ f → overflow_at (set (set os p v) f u) j ≡ overflow_at os j
  two_else j np nf = set_there (set os p v) f u j nf ∙ set_there os p v j np

-- A list whose blocks stay holds what it held, and so does the free chain. The blocks that an edit of one list may touch are those of that list
-- and of the free chain, before and after.
module _ (g : Layout) where
  pub tail_frame : (i : ℕ) (os us : List Overflow) (b : ℕ) (bs es : List ℕ) (d : ℕ)
      → ((j : ℕ) → 0 < occurs j (b ∷ bs) → overflow_at us j ≡ overflow_at os j) → Tail g i os b bs es d → Tail g i us b bs es d
  tail_frame i os us b [] es d f h = (h.0, h.1, f b (occurs_head b []) ∙ h.2)
  tail_frame i os us b (c ∷ cs) es d f h =
      (h.0, f b (occurs_head b (c ∷ cs)) ∙ h.1, tail_frame i os us c cs (drop g.sio es) d (λ j l. f j (omega arith)) h.2)

  holds_frame : (i : ℕ) (os us : List Overflow) (b : Basic) (bs es : List ℕ)
      → ((j : ℕ) → 0 < occurs j bs → overflow_at us j ≡ overflow_at os j) → Holds g i b os bs es → Holds g i b us bs es
  holds_frame i os us b [] es f h = h
  holds_frame i os us b (c ∷ cs) es f h = (h.0, h.1, h.2, h.3, h.4, tail_frame i os us c cs (drop g.sib es) h.0 f h.5)

  pub links_frame : (os us : List Overflow) (f : ℕ) (fs : List ℕ)
      → ((j : ℕ) → 0 < occurs j (f ∷ fs) → overflow_at us j ≡ overflow_at os j) → Links g os f fs → Links g us f fs
  links_frame os us f [] w h = w f (occurs_head f []) ∙ h
  links_frame os us f (n ∷ ns) w h = (w f (occurs_head f (n ∷ ns)) ∙ h.0, links_frame os us n ns (λ j l. w j (omega arith)) h.1)

  pub chain_frame : (os us : List Overflow) (f : ℕ) (fs : List ℕ)
      → ((j : ℕ) → 0 < occurs j fs → overflow_at us j ≡ overflow_at os j) → Chain g os f fs → Chain g us f fs
  chain_frame os us f [] w h = h
  chain_frame os us f (n ∷ ns) w h = (h.0, links_frame os us n ns w h.1)

  -- list i of st has the blocks bs and the slots es, and the free chain is fs: its blocks are blocks of the table, and none stands twice
  pub record Standing (st : State) (i : ℕ) (bs fs es : List ℕ) : Type 0 where
    pub len : length st.overflow ≡ g.nob
    pub dis : (j : ℕ) → occurs j bs + occurs j fs ≤ 1
    pub low : (j : ℕ) → 0 < occurs j bs + occurs j fs → j < g.nob
    pub hold : Holds g i (basic_at st.basic i) st.overflow bs es
    pub fit : All (Fits g.slot) es
    pub chain : Chain g st.overflow st.free fs

  -- u is st but for list i and the free chain: their blocks were bs and fs and are cs and ns now, the same all together, and the list holds es
  pub record Edit (st : State) (i : ℕ) (bs fs cs ns es : List ℕ) (u : State) : Type 0 where
    pub block : Basic
    pub us : List Overflow
    pub free : ℕ
    pub is : u ≡ mk_state free (set st.basic i block) us
    pub len : length us ≡ g.nob
    pub hold : Holds g i block us cs es
    pub fit : All (Fits g.slot) es
    pub chain : Chain g us free ns
    pub others : (j : ℕ) → occurs j bs + occurs j fs ≡ 0 → overflow_at us j ≡ overflow_at st.overflow j
    pub same : (j : ℕ) → occurs j cs + occurs j ns ≡ occurs j bs + occurs j fs

  -- such an edit, with some blocks
  pub record Edited (st : State) (i : ℕ) (bs fs es : List ℕ) (u : State) : Type 0 where
    pub cs : List ℕ
    pub ns : List ℕ
    pub edit : Edit st i bs fs cs ns es u

module _ {g : Layout} {st : State} {T B : List (List ℕ)} {fs : List ℕ} (r : Rep g st T B fs) {i : ℕ} (h : i < g.lists) where
  -- each list of a state that holds lists
  pub rep_standing : Standing g st i (get_or B i []) fs (get_or T i [])
  rep_standing =
      record {
        len = r.overs;
        dis = λ j. omega (arith, r.once j, one_le (ltb j g.nob), sum_at (occurs j) B i [] (omega (arith, r.blocks)));
        low = λ j l. below j g.nob (omega (arith, r.once j, sum_at (occurs j) B i [] (omega (arith, r.blocks))));
        hold = r.each i h;
        fit = r.fits i h;
        chain = r.chain;
      }

  -- after an edit of list i the state holds the lists with that list changed
  pub rep_edit : {cs ns es : List ℕ} {u : State} → Edit g st i (get_or B i []) fs cs ns es u → Rep g u (set T i es) (set B i cs) ns
  rep_edit {cs} {ns} {es} {u} w =
      subst (λ (v : State). Rep g v (set T i es) (set B i cs) ns) (sym w.is)
      record {
        basics = simp length-set r.basics;
        overs = w.len;
        lists = simp length-set r.lists;
        blocks = simp length-set r.blocks;
        each = λ j l. cases (eqb j i) (λ q. here j (eqb-true j i q)) (λ q. there j l (eqb-false j i q));
        fits = λ j l.
            cases (eqb j i)
            (λ q. let z : j ≡ i = eqb-true j i q in rw (z, get_or-set_same T i es [] (omega (arith, r.lists))) w.fit)
            (λ q. rw (get_or-set_other T i j es [] (eqb-false j i q)) (r.fits j l));
        chain = w.chain;
        once = λ j. omega (arith, r.once j, sum_set (occurs j) B i cs [] (omega (arith, r.blocks)), w.same j);
      }
    where
      here : (j : ℕ) → j ≡ i → Holds g j (basic_at (set st.basic i w.block) j) w.us (get_or (set B i cs) j []) (get_or (set T i es) j [])
      here j z =
          rw (
            z,
            get_or-set_same st.basic i w.block empty_basic (omega (arith, r.basics)),
            get_or-set_same B i cs [] (omega (arith, r.blocks)),
            get_or-set_same T i es [] (omega (arith, r.lists)),
          )
          w.hold

      there : (j : ℕ) → j < g.lists → j ≢ i
          → Holds g j (basic_at (set st.basic i w.block) j) w.us (get_or (set B i cs) j []) (get_or (set T i es) j [])
      there j l ne =
          rw (get_or-set_other st.basic i j w.block empty_basic ne, get_or-set_other B i j cs [] ne, get_or-set_other T i j es [] ne)
          (holds_frame g j st.overflow w.us (basic_at st.basic j) (get_or B j []) (get_or T j [])
          (λ n m. w.others n (omega (arith, r.once n, one_le (ltb n g.nob), two n)))
          (r.each j l))
        where
          two : (n : ℕ) → occurs n (get_or B j []) + occurs n (get_or B i []) ≤ sum (occurs n) B
          two n = sum_two (occurs n) B j i [] (omega (arith, r.blocks)) (omega (arith, r.blocks)) ne
