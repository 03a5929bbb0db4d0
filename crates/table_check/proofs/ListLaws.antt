-- A list that is walked to its end is sound and has marked its blocks; a sound list whose blocks have no mark yet is walked to its end.
use mathlib.Core.Path.{◌≡◌, refl, sym, ap, ◌∙◌}
use mathlib.Core.Logic.{⊎_elim}
use mathlib.Core.Bool.{Bool, true, false}
use mathlib.Core.List.{List, [], ◌∷◌, ◌++◌}
use mathlib.Core.Option.{Option, none, some}
use Prim.Native.Nat.{ℕ, zero, suc, ◌+◌, ◌≤◌, ◌<◌}
use native.Mathlib.Omega.{arith}
use native.Mathlib.Nat.{eq-or-lt_of_le}
use native.Mathlib.Numerals.{add-one}
use lib.ListN.{length}
use lib.Dec.{eqb, ltb}
use borrow.Author.Count.{below_more}
use borrow.Author.Tests.{eq-eqb, ne_eqb, lt-ltb, le-ltb, ltb-false}
use Rattle.laws.specs.Folds.{every, sum_below}
use Rattle.laws.specs.Sums.{sum_last}
use Rattle.laws.specs.Cases.{cases, both_true, never, true_both}
use Rattle.laws.specs.Options.{nothing}
use Rattle.settings.specs.declared.layout.Layout.{Layout}
use Rattle.table.specs.State.{Basic, Overflow, State, basic_at, overflow_at, unpack}
use Rattle.table.specs.Follow.{last_of, follow, gather, own_blocks, content_over, content_of, content}
use Rattle.table.specs.Take.{occurs}
use Rattle.table.specs.Check.{blocks_of, overflow_unused, no_entry_twice, list_sound}
use Rattle.table_read.specs.Steps.{last_from}
use Rattle.table_read.specs.theory.Walks.{damaged, owns}
use Rattle.table_check.specs.Walk.{found, list_step, walk}
use Rattle.table_check.specs.Lists.{provided, and_then, short_sound, long_apart, list_walk, lists_walk}
use Rattle.table_check.proofs.Marks.{Marks, marks_as, walk_passed, Some, Begins, trail_begins, walk_completes}
use Rattle.table_check.proofs.Trails.{keep, kept, keeps, list_trail}
use Rattle.table_check.proofs.Doubles.{slots_gather}

-- what was found, and by which tests
record Found (q : Bool) (m after : List ℕ) : Type 0 where
  test : q ≡ true
  same : m ≡ after

found_some : (q : Bool) (m after : List ℕ) → found q m ≡ some after → Found q m after
found_some true m after e = record { test = refl; same = cc }
found_some false m after e = nothing e

record Provided (q : Bool) (o : Option (List ℕ)) (after : List ℕ) : Type 0 where
  test : q ≡ true
  same : o ≡ some after

provided_some : (q : Bool) (o : Option (List ℕ)) (after : List ℕ) → provided q o ≡ some after → Provided q o after
provided_some q none after e = nothing e
provided_some q (some m) after e =
    let f = found_some q m after e in
    record { test = f.test; same = ap some f.same }

-- ---- one list

record Listed (nob : ℕ) (c : ℕ → ℕ) (after bs : List ℕ) (q : Bool) : Type 0 where
  sound : q ≡ true
  marks : Marks nob (λ j. c j + occurs j bs) after

module _ (g : Layout) (os : List Overflow) (full : (b : ℕ) → b < g.nob → length (overflow_at os b).slots ≡ g.sio) (i : ℕ) where
  -- the entries of a list that overflows, where it has no damage
  long_is : (b : Basic) (c : ℕ) (cs : List ℕ) → own_blocks i os (follow g g.nob os b.head) ≡ some (c ∷ cs)
      → long_apart g os i b ≡ no_entry_twice g (unpack g (overflow_at os (last_of c cs)).link b.rest ++ gather g os (c ∷ cs))
  unfolding long_apart last_from
  long_is b c cs e =
      let f = (owns g os i {n = g.nob} {b = b.head} (record { blocks = c ∷ cs; are = e })).found in
      cases (ltb (last_of c cs) g.nob)
      (λ p. rw (e, p) (ap (λ (es : List ℕ). no_entry_twice g (unpack g (overflow_at os (last_of c cs)).link b.rest ++ es)) (slots_gather g os g.nob b.head (c ∷ cs) f)))
      (λ p. nothing (sym (damaged g os i g.nob b.head (rw e (ltb-false (last_of c cs) g.nob p))) ∙ e))

  -- what is said of a list that overflows, by its blocks that were followed
  over_passed : (b : Basic) (c : ℕ → ℕ) (after bs : List ℕ) → long_apart g os i b ≡ true → own_blocks i os (follow g g.nob os b.head) ≡ some bs
      → Begins b.head bs → every (overflow_unused g os) bs ≡ true → Marks g.nob (λ j. c j + occurs j bs) after
      → Listed g.nob c after (blocks_of (content_over g b os (some bs))) (list_sound g b os (content_over g b os (some bs)))
  over_passed b c after bs a e f u k =
      let w : own_blocks i os (follow g g.nob os b.head) ≡ some (b.head ∷ f.rest) = e ∙ ap some f.is in
      let n = sym (long_is b b.head f.rest w) ∙ a in
      let v : every (overflow_unused g os) (b.head ∷ f.rest) ≡ true = ap (every (overflow_unused g os)) (sym f.is) ∙ u in
      let h : Marks g.nob (λ j. c j + occurs j (b.head ∷ f.rest)) after =
      marks_as g.nob (λ j. c j + occurs j bs) (λ j. c j + occurs j (b.head ∷ f.rest)) after (λ j. ap (λ (xs : List ℕ). c j + occurs j xs) f.is) k in
      rw f.is (record { sound = true_both v n; marks = h })

  list_passed : (b : Basic) (c : ℕ → ℕ) (m after : List ℕ) → Marks g.nob c m → list_walk g os i b m ≡ some after
      → Listed g.nob c after (blocks_of (content_of g i b os)) (list_sound g b os (content_of g i b os))
  unfolding list_walk short_sound
  list_passed b c m after k =
      cases (ltb b.counter (suc g.sib))
      (λ p. rw p (λ e.
      let f = found_some (short_sound g b) m after e in
      record { sound = f.test; marks = rw f.same at (marks_as g.nob c (λ j. c j + occurs j []) m (λ j. omega arith) k) }))
      (λ p. cases (eqb b.counter (suc g.sib))
      (λ q. rw (p, q) (λ e.
      let f = provided_some (long_apart g os i b) (walk g (list_step g os i) g.nob b.head m) after e in
      let w = walk_passed g (list_step g os i) after g.nob b.head c m k f.same in
      let t = kept (overflow_unused g os) w.blocks (own_blocks i os (follow g g.nob os b.head)) (sym (list_trail g os i full g.nob b.head) ∙ w.are) in
      let r = over_passed b c after w.blocks f.test t.is (trail_begins g (list_step g os i) g.nob b.head w.blocks w.are) t.pass w.marks in
      rw t.is r))
      (λ q. rw (p, q) (λ e. nothing e)))

  over_completes : (b : Basic) (c : ℕ → ℕ) (m : List ℕ) → Marks g.nob c m → (o : Option (List ℕ)) → own_blocks i os (follow g g.nob os b.head) ≡ o
      → ((j : ℕ) → j < g.nob → c j + occurs j (blocks_of (content_over g b os o)) ≤ 1) → list_sound g b os (content_over g b os o) ≡ true
      → Some (provided (long_apart g os i b) (walk g (list_step g os i) g.nob b.head m))
  over_completes b c m k none w few h = never h
  over_completes b c m k (some []) w few h = never h
  over_completes b c m k (some (x ∷ xs)) w few h =
      let s = both_true (every (overflow_unused g os) (x ∷ xs)) (no_entry_twice g (unpack g (overflow_at os (last_of x xs)).link b.rest ++ gather g os (x ∷ xs))) h in
      let t = list_trail g os i full g.nob b.head ∙ ap (keep (overflow_unused g os)) w ∙ keeps (overflow_unused g os) (x ∷ xs) s.0 in
      let f = walk_completes g (list_step g os i) g.nob b.head c m (x ∷ xs) k few t in
      record { value = f.value; is = rw (f.is, long_is b x xs w ∙ s.1) }

  list_completes : (b : Basic) (c : ℕ → ℕ) (m : List ℕ) → Marks g.nob c m
      → ((j : ℕ) → j < g.nob → c j + occurs j (blocks_of (content_of g i b os)) ≤ 1) → list_sound g b os (content_of g i b os) ≡ true
      → Some (list_walk g os i b m)
  unfolding list_walk short_sound
  list_completes b c m k =
      cases (ltb b.counter (suc g.sib))
      (λ p. rw p (λ few h. record { value = m; is = rw h }))
      (λ p. cases (eqb b.counter (suc g.sib))
      (λ q. rw (p, q) (over_completes b c m k (own_blocks i os (follow g g.nob os b.head)) refl))
      (λ q. rw (p, q) (λ few h. never h)))

-- ---- the first n lists

module _ (g : Layout) (st : State) where
  -- list i is sound
  abbrev pub sound_at : ℕ → Bool
  sound_at i = list_sound g (basic_at st.basic i) st.overflow (content g st i)

  -- how often block j stands in list i
  abbrev occurs_at : ℕ → ℕ → ℕ
  occurs_at j i = occurs j (blocks_of (content g st i))

  pub record Alls (n : ℕ) (after : List ℕ) : Type 0 where
    pub sound : (i : ℕ) → i < n → sound_at i ≡ true
    pub marks : Marks g.nob (λ j. sum_below n (occurs_at j)) after

  module _ (full : (b : ℕ) → b < g.nob → length (overflow_at st.overflow b).slots ≡ g.sio) (m : List ℕ) (k : Marks g.nob (λ j. 0) m) where
    -- list n behind them
    lists_on : (n : ℕ) (after : List ℕ) (o : Option (List ℕ)) → ((u : List ℕ) → o ≡ some u → Alls n u)
        → and_then o (list_walk g st.overflow n (basic_at st.basic n)) ≡ some after → Alls (suc n) after
    unfolding content
    lists_on n after none f e = nothing e
    lists_on n after (some u) f e =
        let a = f u refl in
        let p = list_passed g st.overflow full n (basic_at st.basic n) (λ j. sum_below n (occurs_at j)) u after a.marks e in
        record {
          sound = λ i l. below_more (λ i. sound_at i ≡ true) n a.sound p.sound i (omega arith);
          marks = marks_as g.nob _ (λ j. sum_below (suc n) (occurs_at j)) after (λ j. omega (arith, sum_last n (occurs_at j))) p.marks;
        }

    pub lists_passed : (n : ℕ) (after : List ℕ) → lists_walk g st n m ≡ some after → Alls n after
    unfolding lists_walk
    lists_passed zero after e = let q : m ≡ after = cc in record { sound = λ i l. absurd (omega arith); marks = rw q at k }
    lists_passed (suc n) after e = lists_on n after (lists_walk g st n m) (lists_passed n) e

    pub lists_complete : (n : ℕ) → ((j : ℕ) → j < g.nob → sum_below n (occurs_at j) ≤ 1) → ((i : ℕ) → i < n → sound_at i ≡ true) → Some (lists_walk g st n m)
    unfolding lists_walk content
    lists_complete zero few h = record { value = m; is = refl }
    lists_complete (suc n) few h =
        let a = lists_complete n (λ j l. omega (arith, few j l, sum_last n (occurs_at j))) (λ i l. h i (omega arith)) in
        let p = lists_passed n a.value a.is in
        let r = list_completes g st.overflow full n (basic_at st.basic n) (λ j. sum_below n (occurs_at j)) a.value p.marks (λ j l. omega (arith, few j l, sum_last n (occurs_at j))) (h n (omega arith)) in
        record { value = r.value; is = rw a.is r.is }

-- ---- the turns of the walk

module _ (g : Layout) (os : List Overflow) (i : ℕ) where
  pub list_short : (b : Basic) (m : List ℕ) → b.counter ≤ g.sib → list_walk g os i b m ≡ found (short_sound g b) m
  unfolding list_walk
  list_short b m h = rw (lt-ltb b.counter (suc g.sib) (omega arith))

  pub list_high : (b : Basic) (m : List ℕ) → g.sib < b.counter → (b.counter ≡ suc g.sib → ⊥) → list_walk g os i b m ≡ none
  unfolding list_walk
  list_high b m h f = rw (le-ltb b.counter (suc g.sib) (omega arith), ne_eqb b.counter (suc g.sib) f)

  pub list_over : (b : Basic) (m : List ℕ) → b.counter ≡ suc g.sib
      → list_walk g os i b m ≡ provided (long_apart g os i b) (walk g (list_step g os i) g.nob b.head m)
  unfolding list_walk
  list_over b m e = rw (le-ltb b.counter (suc g.sib) (omega arith), eq-eqb b.counter (suc g.sib) e)

module _ (g : Layout) (st : State) (m : List ℕ) where
  pub lists_none : lists_walk g st 0 m ≡ some m
  unfolding lists_walk
  lists_none = refl

  pub lists_next : (n : ℕ) (u : List ℕ) → lists_walk g st n m ≡ some u
      → lists_walk g st (n + 1) m ≡ list_walk g st.overflow n (basic_at st.basic n) u
  unfolding lists_walk
  lists_next n u e = rw (add-one n, e)

  -- no walk goes past a list that is not sound
  pub lists_stop : (n k : ℕ) → n ≤ k → lists_walk g st n m ≡ none → lists_walk g st k m ≡ none
  unfolding lists_walk
  lists_stop n zero h e = let z : n ≡ 0 = omega arith in rw z at e
  lists_stop n (suc k) h e =
      ⊎_elim (λ z. rw z at e) (λ l. rw (lists_stop n k (omega arith) e)) (eq-or-lt_of_le h)
