-- The walk over all lists and the free chain, from clear marks, finds every block marked exactly if the state is sound.
use mathlib.Core.Path.{◌≡◌, refl, sym, ap, ◌∙◌}
use mathlib.Core.Bool.{Bool, true, false, ◌&&◌}
use mathlib.Core.List.{List, []}
use mathlib.Core.Option.{Option, none, some}
use Prim.Native.Nat.{ℕ, ◌+◌, ◌*◌, ◌≤◌, ◌<◌}
use native.Mathlib.Omega.{arith}
use lib.ListN.{length}
use lib.Dec.{eqb}
use borrow.Author.Tests.{eq-eqb, eqb-true}
use Rattle.laws.specs.Folds.{every, every_below}
use Rattle.laws.specs.Cases.{cases, both_true, never, iff, true_both}
use Rattle.laws.specs.Tests.{below_at, below_all}
use Rattle.laws.specs.Options.{nothing}
use Rattle.bits.specs.Field.{field}
use Rattle.settings.specs.declared.layout.Layout.{Layout}
use Rattle.table.specs.State.{State, overflow_at}
use Rattle.table.specs.Decode.{decode}
use Rattle.table.specs.Table.{Table}
use Rattle.table.specs.Take.{occurs}
use Rattle.table.specs.Check.{free_zero, free_chain, chain_from, chain_sound, lists_sound, occurs_in_lists, state_sound, fill_zero, table_sound}
use Rattle.table_read.specs.theory.Reads.{sized}
use Rattle.table_check.specs.Walk.{chain_step}
use Rattle.table_check.specs.Lists.{and_then, lists_walk, chain_walk, all_marked, sound_walk}
use Rattle.table_check.specs.Answers.{Clear}
use Rattle.table_check.proofs.Marks.{Marks, marks_as, walk_passed, walk_completes, Some}
use Rattle.table_check.proofs.Trails.{keep, kept, keeps, chain_trail}
use Rattle.table_check.proofs.ListLaws.{sound_at, lists_passed, lists_complete}

-- ---- the free chain

record Chained (g : Layout) (st : State) (c : ℕ → ℕ) (after : List ℕ) : Type 0 where
  blocks : List ℕ
  are : free_chain g st ≡ some blocks
  pass : every (free_zero g st.overflow) blocks ≡ true
  marks : Marks g.nob (λ j. c j + occurs j blocks) after

chain_passed : (g : Layout) (st : State) (c : ℕ → ℕ) (m after : List ℕ) → Marks g.nob c m → chain_walk g st m ≡ some after → Chained g st c after
unfolding chain_walk
chain_passed g st c m after k =
    cases (eqb st.free g.nob)
    (λ p. rw p (λ e.
    let q : m ≡ after = cc in
    record {
      blocks = [];
      are = rw p;
      pass = refl;
      marks = rw q at (marks_as g.nob c (λ j. c j + occurs j []) m (λ j. omega arith) k);
    }))
    (λ p. rw p (λ e.
    let w = walk_passed g (chain_step g st.overflow) after g.nob st.free c m k e in
    let t = kept (free_zero g st.overflow) w.blocks (chain_from g g.nob st.overflow st.free) (sym (chain_trail g st.overflow g.nob st.free) ∙ w.are) in
    record { blocks = w.blocks; are = rw p t.is; pass = t.pass; marks = w.marks }))

chain_completes : (g : Layout) (st : State) (c : ℕ → ℕ) (m fs : List ℕ) → Marks g.nob c m → ((j : ℕ) → j < g.nob → c j + occurs j fs ≤ 1)
    → every (free_zero g st.overflow) fs ≡ true → free_chain g st ≡ some fs → Some (chain_walk g st m)
unfolding chain_walk
chain_completes g st c m fs k few u =
    cases (eqb st.free g.nob)
    (λ p. rw p (λ e. record { value = m; is = refl }))
    (λ p. rw p (λ e.
    walk_completes g (chain_step g st.overflow) g.nob st.free c m fs k few
    (chain_trail g st.overflow g.nob st.free ∙ ap (keep (free_zero g st.overflow)) e ∙ keeps (free_zero g st.overflow) fs u)))

-- ---- both

record Both (o : Option (List ℕ)) (f : List ℕ → Option (List ℕ)) (after : List ℕ) : Type 0 where
  mid : List ℕ
  first : o ≡ some mid
  second : f mid ≡ some after

both_some : (o : Option (List ℕ)) (f : List ℕ → Option (List ℕ)) (after : List ℕ) → and_then o f ≡ some after → Both o f after
both_some none f after e = nothing e
both_some (some m) f after e = record { mid = m; first = refl; second = e }

record Marked (g : Layout) (o : Option (List ℕ)) : Type 0 where
  after : List ℕ
  is : o ≡ some after
  all : every_below g.nob (λ j. eqb (field after j 1) 1) ≡ true

marked_some : (g : Layout) (o : Option (List ℕ)) → all_marked g o ≡ true → Marked g o
marked_some g none e = never e
marked_some g (some m) e = record { after = m; is = refl; all = e }

record Chain (g : Layout) (st : State) (o : Option (List ℕ)) : Type 0 where
  blocks : List ℕ
  are : o ≡ some blocks
  pass : every (free_zero g st.overflow) blocks ≡ true
  once : every_below g.nob (λ j. eqb (occurs_in_lists g j st + occurs j blocks) 1) ≡ true

chain_some : (g : Layout) (st : State) (o : Option (List ℕ)) → chain_sound g st o ≡ true → Chain g st o
chain_some g st none e = never e
chain_some g st (some fs) e =
    let b = both_true (every (free_zero g st.overflow) fs) (every_below g.nob (λ j. eqb (occurs_in_lists g j st + occurs j fs) 1)) e in
    record { blocks = fs; are = refl; pass = b.0; once = b.1 }

module _ (g : Layout) (st : State) (full : (b : ℕ) → b < g.nob → length (overflow_at st.overflow b).slots ≡ g.sio)
    (m : List ℕ) (k : Marks g.nob (λ j. 0) m) where
  sound_then : sound_walk g st m ≡ true → state_sound g st ≡ true
  unfolding sound_walk state_sound
  sound_then e =
      let a = marked_some g (and_then (lists_walk g st g.lists m) (chain_walk g st)) e in
      let b = both_some (lists_walk g st g.lists m) (chain_walk g st) a.after a.is in
      let l = lists_passed g st full m k g.lists b.mid b.first in
      let c = chain_passed g st (λ j. occurs_in_lists g j st) b.mid a.after l.marks b.second in
      true_both (below_all g.lists (sound_at g st) l.sound)
      (ap (chain_sound g st) c.are
      ∙ true_both c.pass
      (below_all g.nob (λ j. eqb (occurs_in_lists g j st + occurs j c.blocks) 1)
      (λ j h.
      let q : occurs_in_lists g j st + occurs j c.blocks ≡ field a.after j 1 = omega (arith, c.marks.bit j h) in
      ap (λ (x : ℕ). eqb x 1) q ∙ below_at g.nob (λ i. eqb (field a.after i 1) 1) a.all j h)))

  sound_if : state_sound g st ≡ true → sound_walk g st m ≡ true
  unfolding sound_walk state_sound
  sound_if e =
      let b = both_true (lists_sound g st) (chain_sound g st (free_chain g st)) e in
      let c = chain_some g st (free_chain g st) b.1 in
      let once : (j : ℕ) → j < g.nob → occurs_in_lists g j st + occurs j c.blocks ≡ 1 =
      λ j h. eqb-true (occurs_in_lists g j st + occurs j c.blocks) 1 (below_at g.nob (λ i. eqb (occurs_in_lists g i st + occurs i c.blocks) 1) c.once j h) in
      let l = lists_complete g st full m k g.lists (λ j h. omega (arith, once j h)) (below_at g.lists (sound_at g st) b.0) in
      let p = lists_passed g st full m k g.lists l.value l.is in
      let f = chain_completes g st (λ j. occurs_in_lists g j st) l.value c.blocks p.marks (λ j h. omega (arith, once j h)) c.pass c.are in
      let q = chain_passed g st (λ j. occurs_in_lists g j st) l.value f.value p.marks f.is in
      let same : q.blocks ≡ c.blocks = some_same (sym q.are ∙ c.are) in
      rw (l.is, f.is)
      (below_all g.nob (λ j. eqb (field f.value j 1) 1)
      (λ j h. eq-eqb (field f.value j 1) 1 (omega (arith, q.marks.bit j h, ap (occurs j) same, once j h))))
    where
      some_same : {x y : List ℕ} → some x ≡ some y → x ≡ y
      some_same w = cc

  pub sound_walk_lem : sound_walk g st m ≡ state_sound g st
  sound_walk_lem = iff (sound_walk g st m) (state_sound g st) sound_then sound_if

-- ---- the table

pub clear_marks : (nob : ℕ) (m : List ℕ) → nob ≤ 8 * length m → Clear m → Marks nob (λ j. 0) m
clear_marks nob m l c = record { room = l; bit = λ j h. c j (omega arith) }

module _ (g : Layout) (t m : List ℕ) (T : Table g t) (k : Marks g.nob (λ j. 0) m) where
  pub table_none : and_then (lists_walk g (decode g t) g.lists m) (chain_walk g (decode g t)) ≡ none → table_sound g t ≡ false
  unfolding table_sound sound_walk
  table_none e =
      ap (λ (q : Bool). q && fill_zero g t)
      (sym (sound_walk_lem g (decode g t) (sized g t T) m k) ∙ ap (all_marked g) e)

  pub table_some : (after : List ℕ) → and_then (lists_walk g (decode g t) g.lists m) (chain_walk g (decode g t)) ≡ some after
      → table_sound g t ≡ (every_below g.nob (λ j. eqb (field after j 1) 1) && fill_zero g t)
  unfolding table_sound sound_walk
  table_some after e =
      ap (λ (q : Bool). q && fill_zero g t)
      (sym (sound_walk_lem g (decode g t) (sized g t T) m k) ∙ ap (all_marked g) e)
