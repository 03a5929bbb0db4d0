-- Where a cursor begins: a list without overflow blocks, one with them, and an overflow block.
use mathlib.Core.Path.{◌≡◌, refl, sym, ap, ap₂, ◌∙◌}
use mathlib.Core.Logic.{◌≢◌}
use mathlib.Core.List.{List, [], ◌∷◌, ◌++◌, append-nil}
use mathlib.Core.Option.{Option, none, some}
use Prim.Native.Nat.{ℕ, suc, ◌-◌, ◌^◌, ◌≤◌, ◌<◌, min}
use native.Mathlib.Omega.{arith}
use native.Mathlib.Decide.{dec_le}
use lib.ListN.{length, take}
use Rattle.settings.specs.declared.layout.Layout.{Layout}
use Rattle.keys.specs.declared.BlockNumber.{BlockNumber}
use Rattle.keys.specs.declared.ListNumber.{ListNumber}
use Rattle.table.specs.State.{State, basic_at, overflow_at, unpack, own_slots}
use Rattle.table.specs.Decode.{decode}
use Rattle.table.specs.Table.{Table}
use Rattle.table.specs.Follow.{follow, own_blocks, content_over, content, step_of}
use Rattle.table.specs.theory.Ways.{Way, way}
use Rattle.table.specs.theory.Ways as ways
use Rattle.table.specs.declared.step.Step.{Step}
use Rattle.table.specs.declared.step.Step.TheVariants as step
use Rattle.table_read.specs.Steps.{slots_in, basic_run, displaced_run, overflow_run, last_from, Followed, OwnFollowed, Overflows, gather_from}
use Rattle.table_read.specs.theory.Reads.{slots_length, basic_run_within, displaced_run_within, overflow_run_within, basic_slots_in, displaced_slots_in, link_lt}
use Rattle.table_read.specs.theory.Walks.{OneStep, one_step, ended_own, content_short, content_high, content_over_lem, content_long}
use Rattle.table_read.specs.theory.Finds.{block_last, block_more}
use Rattle.table_read.specs.declared.slots.Slots.{Slots}
use Rattle.plain_set.specs.Rebuilt.{slots_of}
use Rattle.table_cursor.specs.Ahead.{gather_behind, Leads, slots_ahead}
use Rattle.table_cursor.specs.Steps.{Begins}
use Rattle.table_cursor.specs.declared.places.Cursor.{Cursor}
use Rattle.table_cursor.proofs.Longer.{followed_longer, gather_longer, last_within}

abbrev pub cursor : ListNumber → ℕ → Slots → Step → Cursor
cursor i k run b = record { list = i; passed = k; run = run; behind = b }

nil_of : {A : Type 0} (xs : List A) → length xs ≡ 0 → xs ≡ []
nil_of [] e = refl
nil_of (x ∷ xs) e = absurd (omega arith)

-- ---- a list that is not damaged: its counter is at most sib + 1, and its overflow blocks can be followed and are its own

module _ (g : Layout) (st : State) (i : ℕ) (whole : content g st i ≢ none) where
  counter_low : (basic_at st.basic i).counter ≤ suc g.sib
  counter_low = pick (dec_le (basic_at st.basic i).counter (suc g.sib))
    where
      pick : Dec ((basic_at st.basic i).counter ≤ suc g.sib) → (basic_at st.basic i).counter ≤ suc g.sib
      pick (yes p) = p
      pick (no p) = absurd (whole (content_high g st i (omega arith)))

  over_followed : (basic_at st.basic i).counter ≡ suc g.sib → OwnFollowed g i g.nob st.overflow (basic_at st.basic i).head
  over_followed h = pick (own_blocks i st.overflow (follow g g.nob st.overflow (basic_at st.basic i).head)) refl
    where
      pick : (o : Option (List ℕ)) → own_blocks i st.overflow (follow g g.nob st.overflow (basic_at st.basic i).head) ≡ o
          → OwnFollowed g i g.nob st.overflow (basic_at st.basic i).head
      pick none e = absurd (whole (content_over_lem g st i h ∙ ap (content_over g (basic_at st.basic i) st.overflow) e))
      pick (some bs) e = record { blocks = bs; are = e }

  -- a counter above sib says that there are overflow blocks
  pub over : (c h : ℕ) → c ≡ (basic_at st.basic i).counter → g.sib < c → h ≡ (basic_at st.basic i).head
      → Overflows g st i h × OwnFollowed g i g.nob st.overflow h
  over c h ec high eh =
      let n : (basic_at st.basic i).counter ≡ suc g.sib = omega (arith, counter_low) in
      (record { counter = n; head = eh }, rw eh (over_followed n))

-- ---- where runs begin

module _ (g : Layout) (t : List ℕ) (T : Table g t) (i : ListNumber) (l : i.0 < g.lists) where
  -- a list without overflow blocks
  pub begins_short : (c : ℕ) (run : Slots) → c ≡ (basic_at (decode g t).basic i.0).counter → c ≤ g.sib → run ≡ basic_run g i.0 c
      → Begins g t i.0 (slots_of (content g (decode g t) i.0)) (cursor i 0 run step.Last)
  unfolding slots_ahead
  begins_short c run ec low er =
      let n = (basic_at (decode g t).basic i.0).counter in
      let k : n ≤ g.sib = omega arith in
      let es : List ℕ = take n (own_slots g (basic_at (decode g t).basic i.0)) in
      let a : slots_in g t run ≡ es = ap (slots_in g t) (er ∙ ap (basic_run g i.0) ec) ∙ basic_slots_in g t T i.0 n l k in
      let b : slots_of (content g (decode g t) i.0) ≡ es = ap slots_of (content_short g (decode g t) i.0 k) in
      record {
        good = record { list = l; run = rw er (basic_run_within g t T i.0 c l low); behind = tt };
        list = refl;
        passed = refl;
        slots = append-nil (slots_in g t run) ∙ a ∙ sym b;
        empty = λ z. b ∙ sym a ∙ nil_of (slots_in g t run) (slots_length g t run ∙ z);
      }

  -- a list with overflow blocks, from block h to block z
  module _ (h : BlockNumber) (z d : ℕ) (over : Overflows g (decode g t) i.0 h.0) (f : OwnFollowed g i.0 g.nob (decode g t).overflow h.0)
      (last_is : z ≡ last_from g i.0 g.nob (decode g t).overflow h.0) (link_is : d ≡ (overflow_at (decode g t).overflow z).link) where
    list_slots : slots_of (content g (decode g t) i.0) ≡ unpack g d (basic_at (decode g t).basic i.0).rest ++ gather_from g g.nob (decode g t).overflow h.0
    list_slots =
        let k : OwnFollowed g i.0 g.nob (decode g t).overflow (basic_at (decode g t).basic i.0).head = rw over.head at f in
        let w : last_from g i.0 g.nob (decode g t).overflow (basic_at (decode g t).basic i.0).head ≡ z =
        sym (last_is ∙ ap (last_from g i.0 g.nob (decode g t).overflow) over.head) in
        ap slots_of (content_long g (decode g t) i.0 over.counter k)
        ∙ ap₂ (λ (x y : ℕ). unpack g x (basic_at (decode g t).basic i.0).rest ++ gather_from g g.nob (decode g t).overflow y)
        (ap (λ (x : ℕ). (overflow_at (decode g t).overflow x).link) w ∙ sym link_is) (sym over.head)

    pub begins_long : (run : Slots) → run ≡ displaced_run g i.0 d → Begins g t i.0 (slots_of (content g (decode g t) i.0)) (cursor i 0 run (step.Further h))
    unfolding slots_ahead displaced_run
    begins_long run er =
        let low : z < g.nob = omega (arith, last_within g (decode g t).overflow i.0 g.nob h.0 f) in
        let fits : d < 2 ^ g.link = rw link_is (link_lt g t T z low) in
        let n : run.count ≡ g.sib = ap (λ (b : Slots). b.count) er in
        let a : slots_in g t run ≡ unpack g d (basic_at (decode g t).basic i.0).rest = ap (slots_in g t) er ∙ displaced_slots_in g t T i.0 d l fits in
        record {
          good = record { list = l; run = rw er (displaced_run_within g t T i.0 d l fits); behind = ended_own g (decode g t).overflow i.0 f };
          list = refl;
          passed = refl;
          slots = ap (◌++ gather_from g g.nob (decode g t).overflow h.0) a ∙ sym list_slots;
          empty = λ e. absurd (omega (arith, T.proper.sib_low));
        }

  -- an overflow block with counter c and link d
  module _ (b c d : ℕ) (run : Slots) (f : Followed g g.nob (decode g t).overflow b) (count_is : c ≡ (overflow_at (decode g t).overflow b).counter)
      (link_is : d ≡ (overflow_at (decode g t).overflow b).link) (run_is : run ≡ overflow_run g b c) where
    here : OneStep g (decode g t).overflow g.nob b
    here = one_step g (decode g t).overflow g.nob b f

    block_some : 0 < run.count
    unfolding overflow_run
    block_some = let n : run.count ≡ min (suc c) g.sio = ap (λ (x : Slots). x.count) run_is in omega (arith, T.proper.sio_low)

    -- what is behind the run
    record Behind (n : Step) : Type 0 where
      leads : Leads g (decode g t).overflow n
      slots : slots_in g t run ++ gather_behind g (decode g t).overflow n ≡ gather_from g g.nob (decode g t).overflow b

    behind_way : (n : Step) → Way g.sio c d n → Behind n
    behind_way step.Last (ways.ends h) =
        record { leads = tt; slots = append-nil (slots_in g t run) ∙ sym (block_last g t T g.nob b c run here count_is run_is h) }
    behind_way (step.Further x) (ways.goes h) =
        let on : Followed g (g.nob - 1) (decode g t).overflow d = rw link_is (here.on (sym count_is ∙ h)) in
        record {
          leads = followed_longer g (decode g t).overflow (g.nob - 1) g.nob d (omega arith) on;
          slots = ap (slots_in g t run ++◌)
              (sym (gather_longer g (decode g t).overflow (g.nob - 1) g.nob d (omega arith) on)
              ∙ ap (gather_from g (g.nob - 1) (decode g t).overflow) link_is)
              ∙ sym (block_more g t T g.nob b c run here count_is run_is (omega arith));
        }
    behind_way step.Damage (ways.breaks h) = absurd (omega (arith, here.count))

    pub begins_block : (n : Step) → n ≡ step_of g.sio c d
        → Begins g t i.0 (gather_from g g.nob (decode g t).overflow b) (cursor i 0 run n) × (0 < run.count)
    unfolding slots_ahead
    begins_block n e =
        let w : Behind n = rw e (behind_way (step_of g.sio c d) (way g.sio c d)) in (
          record {
            good = record { list = l; run = rw run_is (overflow_run_within g t T b c here.low); behind = w.leads };
            list = refl;
            passed = refl;
            slots = w.slots;
            empty = λ z. absurd (omega (arith, block_some));
          },
          block_some,
        )
