-- The test that check computes says what clause 6.10 says, of every table: both ways.
use Rattle.std.specs.Prelude.{◌≡◌, ◌≢◌, ◌&&◌, List, [], ◌∷◌, ltb, length, get_or, drop}
use Rattle.std.proofs.Math.Path.{refl, sym}
use Rattle.std.proofs.Common.{ap, ◌∙◌, arith}
use Rattle.std.proofs.Math.Bool.{true}
use Rattle.std.proofs.Math.Option.{Option, none, some}
use Prim.Native.Nat.{ℕ, suc, ◌+◌, ◌-◌, ◌*◌, ◌≤◌, ◌<◌}
use Rattle.std.proofs.Math.Dec.{eqb}
use borrow.Author.Tests.{ltb-true, eqb-true, eq-eqb}
use Rattle.laws.specs.Folds.{every, every_below, all_zero, sum_below}
use Rattle.laws.specs.Cases.{both_true, true_both, never}
use Rattle.laws.specs.Tests.{below_at, below_all}
use Rattle.laws.specs.Sums.{sum_ext, sum_add, sum_one}
use Rattle.bits.specs.Field.{field}
use Rattle.settings.specs.declared.layout.Layout.{Layout}
use Rattle.table.specs.State.{Basic, Overflow, State, basic_at, overflow_at, own_slots, entry_of}
use Rattle.table.specs.Decode.{decode}
use Rattle.table.specs.Follow.{Content, mk_content, follow, own_blocks, content_over, content_of, content}
use Rattle.table.specs.Take.{occurs}
use Rattle.table.specs.Check.{blocks_of, basic_unused, overflow_unused, free_zero, no_entry_twice, list_sound, lists_sound, free_chain, occurs_in_lists, chain_sound, state_sound, fill_zero, table_sound}
use Rattle.table.specs.Sound.{SoundState, Sound}
use Rattle.table.specs.theory.Formed.{Formed}
use Rattle.table.specs.theory.FormedCalls.{either, Holds, holds_none, holds_some, holds_of, content_fits}
use Rattle.table.specs.theory.Every.{every_at, every_all, zeros_at, zeros_all, single_at, single_all}
use Rattle.table.specs.theory.Occurs.{sum_swap, sum_below_lem}
use Rattle.table.specs.theory.Chain.{FreeChain, free_chain_lem, chain_below, chain_free}

module _ (g : Layout) where
  -- ---- each list

  -- a basic block that does not overflow has no overflow blocks behind it, and no other has none
  record Overflows (b : Basic) (v : Content) : Type 0 where
    from_none : v.blocks ≡ [] → b.counter ≤ g.sib
    to_none : b.counter ≤ g.sib → v.blocks ≡ []

  not_none : {c : ℕ} {cs : List ℕ} → c ∷ cs ≡ [] → ⊥
  not_none q = let z : ◌≡◌ {A = ℕ} 0 1 = cc in omega arith

  over_overflows : (b : Basic) (os : List Overflow) (o : Option (List ℕ)) → b.counter ≡ suc g.sib → Holds (Overflows b) (content_over g b os o)
  over_overflows b os none e = holds_none
  over_overflows b os (some []) e = holds_none
  over_overflows b os (some (c ∷ cs)) e =
      holds_some (record { from_none = λ q. absurd (not_none q); to_none = λ h. absurd (omega arith) })

  content_overflows : (i : ℕ) (b : Basic) (os : List Overflow) → Holds (Overflows b) (content_of g i b os)
  content_overflows i b os =
      either (Holds (Overflows b)) (ltb b.counter (suc g.sib))
      (λ e. let l = ltb-true b.counter (suc g.sib) e in holds_some (record { from_none = λ q. omega arith; to_none = λ h. refl }))
      (λ e. either (Holds (Overflows b)) (eqb b.counter (suc g.sib))
      (λ c. over_overflows b os (own_blocks i os (follow g g.nob os b.head)) (eqb-true b.counter (suc g.sib) c))
      (λ c. holds_none))

  -- the unused slots of a basic block
  unused_at : (b : Basic) (bs : List ℕ) → basic_unused g b bs ≡ true → bs ≡ [] → all_zero (drop b.counter (own_slots g b)) ≡ true
  unused_at b bs e q = rw q at e

  unused_all : (b : Basic) (bs : List ℕ) → (bs ≡ [] → all_zero (drop b.counter (own_slots g b)) ≡ true) → basic_unused g b bs ≡ true
  unused_all b [] h = h refl
  unused_all b (c ∷ cs) h = refl

  -- no damage, and the zeros and entries of one list, in the words of clause 6.10
  record SoundList (i : ℕ) (b : Basic) (os : List Overflow) (v : Content) : Type 0 where
    undamaged : content_of g i b os ≡ some v
    basic_zero : (k : ℕ) → b.counter ≤ g.sib → b.counter ≤ k → get_or (own_slots g b) k 0 ≡ 0
    overflow_zero : (j k : ℕ) → 0 < occurs j v.blocks → (overflow_at os j).counter < k → get_or (overflow_at os j).slots k 0 ≡ 0
    single : (p q : ℕ) → p < q → q < length v.slots → entry_of g (get_or v.slots p 0) ≢ entry_of g (get_or v.slots q 0)

  -- the content of a list; nothing where there is damage
  content_or_empty : Option Content → Content
  content_or_empty none = mk_content [] []
  content_or_empty (some v) = v

  list_at : (i : ℕ) (b : Basic) (os : List Overflow) → list_sound g b os (content_of g i b os) ≡ true → SoundList i b os (content_or_empty (content_of g i b os))
  unfolding content_or_empty
  list_at i b os = go (content_of g i b os) refl (content_overflows i b os)
    where
      go : (o : Option Content) → content_of g i b os ≡ o → Holds (Overflows b) o → list_sound g b os o ≡ true → SoundList i b os (content_or_empty o)
      go none q h e = never e
      go (some v) q h e =
          let a = both_true (basic_unused g b v.blocks) (every (overflow_unused g os) v.blocks && no_entry_twice g v.slots) e in
          let c = both_true (every (overflow_unused g os) v.blocks) (no_entry_twice g v.slots) a.1 in
          record {
            undamaged = q;
            basic_zero = λ k l m. zeros_at (own_slots g b) b.counter k (unused_at b v.blocks a.0 ((holds_of h refl).to_none l)) m;
            overflow_zero = λ j k l m. zeros_at (overflow_at os j).slots (suc (overflow_at os j).counter) k (every_at (overflow_unused g os) v.blocks j c.0 l) m;
            single = λ p q. single_at g v.slots p q c.1;
          }

  list_all : {i : ℕ} {b : Basic} {os : List Overflow} {v : Content} → SoundList i b os v → list_sound g b os (content_of g i b os) ≡ true
  list_all {i} {b} {os} {v} s =
      rw s.undamaged
      (true_both
      (unused_all b v.blocks (λ q. zeros_all (own_slots g b) b.counter (λ k m. s.basic_zero k ((holds_of (content_overflows i b os) s.undamaged).from_none q) m)))
      (true_both
      (every_all (overflow_unused g os) v.blocks (λ j l. zeros_all (overflow_at os j).slots (suc (overflow_at os j).counter) (λ k m. s.overflow_zero j k l m)))
      (single_all g v.slots s.single)))

  -- ---- states

  -- how often block j stands in the lists and in a free chain, as the test counts it
  abbrev stands : State → List ℕ → ℕ → ℕ
  stands st fs j = occurs_in_lists g j st + occurs j fs

  -- what the test counts is what the sentence counts
  stands_sum : (st : State) (fs : List ℕ) (j : ℕ) (lists : ℕ → Content)
      → ((i : ℕ) → i < g.lists → content g st i ≡ some (lists i)) → stands st fs j ≡ sum_below g.lists (λ i. occurs j (lists i).blocks) + occurs j fs
  stands_sum st fs j lists h =
      omega (arith, sum_ext g.lists (λ i. occurs j (blocks_of (content g st i))) (λ i. occurs j (lists i).blocks) (λ i l. ap (λ (o : Option Content). occurs j (blocks_of o)) (h i l)))

  module _ {st : State} where
    chain_state : {o : Option (List ℕ)} → lists_sound g st ≡ true → Holds (FreeChain g st) o → chain_sound g st o ≡ true → SoundState g st
    unfolding content
    chain_state e holds_none t = never t
    chain_state e (holds_some {a = fs} c) t =
        let two = both_true (every (free_zero g st.overflow) fs) (every_below g.nob (λ j. eqb (stands st fs j) 1)) t in
        record {
          lists = found;
          chain = fs;
          undamaged = λ i h. (each i h).undamaged;
          start = c.start;
          linked = c.linked;
          once = λ j h. sym (stands_sum st fs j found (λ i l. (each i l).undamaged)) ∙ eqb-true (stands st fs j) 1 (below_at g.nob (λ j. eqb (stands st fs j) 1) two.1 j h);
          basic_zero = λ i k h. (each i h).basic_zero k;
          overflow_zero = λ i j k h. (each i h).overflow_zero j k;
          free_counter = λ j h. eqb-true (overflow_at st.overflow j).counter 0 (free j two.0 h).0;
          free_owner = λ j h. eqb-true (overflow_at st.overflow j).owner 0 (free j two.0 h).1;
          free_zero = λ j k h. zeros_at (overflow_at st.overflow j).slots 0 k (free j two.0 h).2 (omega arith);
          single = λ i p q h. (each i h).single p q;
        }
      where
        found : ℕ → Content
        found i = content_or_empty (content g st i)

        each : (i : ℕ) → i < g.lists → SoundList i (basic_at st.basic i) st.overflow (found i)
        each i h =
            list_at i (basic_at st.basic i) st.overflow
            (below_at g.lists (λ i. list_sound g (basic_at st.basic i) st.overflow (content g st i)) e i h)

        free : (j : ℕ) → every (free_zero g st.overflow) fs ≡ true → 0 < occurs j fs
            → (eqb (overflow_at st.overflow j).counter 0 ≡ true) × (eqb (overflow_at st.overflow j).owner 0 ≡ true) × (all_zero (overflow_at st.overflow j).slots ≡ true)
        free j z h =
            let a = both_true (eqb (overflow_at st.overflow j).counter 0) _ (every_at (free_zero g st.overflow) fs j z h) in
            let b = both_true (eqb (overflow_at st.overflow j).owner 0) (all_zero (overflow_at st.overflow j).slots) a.1 in
            (a.0, b.0, b.1)

    -- the test of a state, and what clause 6.10 says of it
    pub test_state : state_sound g st ≡ true → SoundState g st
    unfolding state_sound
    test_state t =
        let two = both_true (lists_sound g st) (chain_sound g st (free_chain g st)) t in
        chain_state two.0 (free_chain_lem g st) two.1

    pub state_test : SoundState g st → state_sound g st ≡ true
    unfolding state_sound content
    state_test s =
        true_both
        (below_all g.lists (λ i. list_sound g (basic_at st.basic i) st.overflow (content g st i)) (λ i l. list_all (each i l)))
        (rw (chain_free g st s.chain s.linked (λ j l. omega (arith, s.once j l)))
        (true_both
        (every_all (free_zero g st.overflow) s.chain (λ j l.
        true_both (eq-eqb (overflow_at st.overflow j).counter 0 (s.free_counter j l))
        (true_both (eq-eqb (overflow_at st.overflow j).owner 0 (s.free_owner j l))
        (zeros_all (overflow_at st.overflow j).slots 0 (λ k m. s.free_zero j k l)))))
        (below_all g.nob (λ j. eqb (stands st s.chain j) 1) (λ j l.
        eq-eqb (stands st s.chain j) 1 (stands_sum st s.chain j s.lists s.undamaged ∙ s.once j l)))))
      where
        each : (i : ℕ) → i < g.lists → SoundList i (basic_at st.basic i) st.overflow (s.lists i)
        each i h =
            record {
              undamaged = s.undamaged i h;
              basic_zero = λ k. s.basic_zero i k h;
              overflow_zero = λ j k. s.overflow_zero i j k h;
              single = λ p q. s.single i p q h;
            }

  -- ---- tables

  -- check finds a table sound exactly if it is
  pub test_sound : {t : List ℕ} → table_sound g t ≡ true → Sound g t
  unfolding table_sound fill_zero
  test_sound {t} e =
      let two = both_true (state_sound g (decode g t)) (fill_zero g t) e in
      record {
        state = test_state two.0;
        fill = eqb-true (field t g.bits (8 * g.bytes - g.bits)) 0 two.1;
      }

  pub sound_test : {t : List ℕ} → Sound g t → table_sound g t ≡ true
  unfolding table_sound fill_zero
  sound_test {t} s =
      true_both (state_test s.state)
      (eq-eqb (field t g.bits (8 * g.bytes - g.bits)) 0 s.fill)

  -- clause 6.10: blocks in lists and blocks in the chain are nob together
  pub blocks_make_nob : {st : State} → Formed g st → (s : SoundState g st) → sum_below g.lists (λ i. length (s.lists i).blocks) + length s.chain ≡ g.nob
  blocks_make_nob {st} f s =
      omega (
        arith,
        sum_ext g.nob (λ j. sum_below g.lists (λ i. occurs j (s.lists i).blocks) + occurs j s.chain) (λ j. 1) s.once,
        sum_one g.nob,
        sum_add g.nob (λ j. sum_below g.lists (λ i. occurs j (s.lists i).blocks)) (λ j. occurs j s.chain),
        sum_swap g.nob g.lists (λ i j. occurs j (s.lists i).blocks),
        sum_ext g.lists (λ i. sum_below g.nob (λ j. occurs j (s.lists i).blocks)) (λ i. length (s.lists i).blocks) (λ i h.
            sum_below_lem g.nob (content_fits g i f (s.undamaged i h)).blocks.below),
        sum_below_lem g.nob (chain_below g st.overflow st.free s.chain s.linked),
      )
