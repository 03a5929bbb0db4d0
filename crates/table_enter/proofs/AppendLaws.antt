-- Appending, against its definition on the decoded state.
use Rattle.std.specs.Prelude.{Err}
use mathlib.Core.Path.{◌≡◌, refl, sym, ap, ◌∙◌}
use mathlib.Core.Bool.{true, false, cond}
use mathlib.Core.List.{List, [], ◌∷◌}
use mathlib.Core.Option.{some}
use Prim.Native.Nat.{ℕ, suc, ◌+◌, ◌^◌, ◌≤◌, ◌<◌}
use native.Mathlib.Omega.{arith}
use native.Mathlib.Numerals.{add-one}
use lib.ListN.{set}
use lib.Dec.{ltb}
use borrow.Author.Tests.{lt-ltb, le-ltb}
use Rattle.bits.specs.Bytes.{Bytes}
use Rattle.settings.specs.declared.layout.Layout.{Layout}
use Rattle.settings.specs.declared.refusal.Refusal.{Refusal}
use Rattle.settings.specs.declared.refusal.Refusal.TheVariants as refusal
use Rattle.table.specs.State.{Basic, Overflow, State, basic_at, overflow_at, empty_block, own_slots, basic_of}
use Rattle.table.specs.Updates.{over_basic, over_overflow, with_free, with_front, with_slot, with_counter, with_basic_counter, with_basic_front}
use Rattle.bits.specs.theory.Fields.{field_fits}
use Rattle.table.specs.Decode.{block_at, read_overflow, decode}
use Rattle.table.specs.theory.Changes.{at_over}
use Rattle.table.specs.Table.{Table}
use Rattle.table.specs.Take.{occurs, taken}
use Rattle.table.specs.Numbers.{basic_number, overflow_number}
use Rattle.table_read.specs.theory.Reads.{sized}
use Rattle.table.specs.Enter.{one_more, extended, append}
use Rattle.table_read.specs.Steps.{last_in, last_from, OwnFollowed}
use Rattle.table.specs.Done.{Done, done, Answered, unchanged, answered}
use Rattle.table.specs.Store.{slot_in}
use Rattle.table_read.specs.BlockSlots.{has_block}
use Rattle.table_read.specs.theory.Walks.{owns, followed, content_short, content_long}
use Rattle.table.specs.theory.Formed.{basics, overflows}
use Rattle.table_read.specs.theory.BlockSlots.{has_as}
use Rattle.table.specs.Answer.{said, Answer}
use Rattle.table.specs.declared.answers.Word.TheVariants as word
use Rattle.table_store.specs.Stores.{free_put, basic_counter_put, overflow_counter_put, slot_put, Stored}
use Rattle.table_store.specs.theory.StoreLaws.{stored_then, stored_as, stored_written, basic_twice, overflow_twice, stored_free, stored_basic_counter, stored_overflow_counter, stored_basic_slot, stored_overflow_slot}
use Rattle.table_enter.specs.Enters.{slot_for, free_of, append_to, number_for, appending, Appended, EndsIn}
use Rattle.table_read.specs.Places.{basic_slot, overflow_slot}
use Rattle.table_enter.specs.declared.append.Item.{Item}
use Rattle.table_enter.proofs.FreeLaws.{Takes, extended_to, no_take}
use Rattle.table_enter.proofs.EndLaws.{behind_last, room_number, first_number, over_number}

-- ---- rows of stores

module _ (g : Layout) (t : List ℕ) (T : Table g t) where
  pub counter_small : (j : ℕ) → j < g.nob → (overflow_at (decode g t).overflow j).counter < 16
  unfolding read_overflow
  counter_small j h =
      rw (ap (λ (o : Overflow). o.counter) (at_over g T.proper t j h)) (field_fits t (block_at g.overflow j) g.overflow.counter 4 T.proper.overflow_high)

  pub stored_take : (i f l next x : ℕ) → f < g.nob → next ≤ g.nob → x < 2 ^ g.slot → (a b u : List ℕ) (at : ℕ)
      → Stored g t a (over_overflow f (λ o. empty_block g l i) (decode g t)) → at ≡ overflow_slot g f 0 → b ≡ slot_put g a at x → u ≡ free_put g b next
      → Stored g t u (taken g i f next l x (decode g t))
  stored_take i f l next x hf hn hx a b u at A ep eb eu =
      let F = T.proper in
      let B = stored_overflow_slot g a A.table f hf 0 x F.sio_low hx b (eb ∙ ap (λ (n : ℕ). slot_put g a n x) ep) in
      let C = stored_free g b B.table u next (omega (arith, F.free_holds)) eu in
      stored_as (taken g i f next l x (decode g t))
      (stored_then (with_free next) (stored_then (over_overflow f (with_slot 0 x)) A B) C)
      (ap (with_free next) (overflow_twice f (with_slot 0 x) (λ o. empty_block g l i) (decode g t) (omega (arith, overflows g t, hf))))

-- ---- appending

module _ (g : Layout) (t : List ℕ) (T : Table g t) (y : Bytes t) (i : ℕ) (v : Item) where
  abbrev st : State
  st = decode g t

  abbrev b : Basic
  b = basic_at (decode g t).basic i

  abbrev added : Answer
  added = said word.Added v.label v.compared (number_for g (decode g t) i)

  -- the answer with the slot's number as the code computes it
  abbrev said_at : ℕ → Answer
  said_at x = said word.Added v.label v.compared x

  abbrev told : Done → Answered
  told = answered added

  done_as : (u : List ℕ) (su : State) (r : Answer) → append_to g (decode g t) i v ≡ done su → Stored g t u su → r ≡ added → Appended g t u i v r
  done_as u su r e s er = record { answer = rw e er; bytes = rw e (stored_written T y s) }

  refused_as : (why : Refusal) → appending g (decode g t) i v ≡ unchanged (Err why) → Appended g t t i v (Err why)
  refused_as why e = rw e (record { answer = refl; bytes = refl })

  module _ (hi : i < g.lists) (hx : slot_for g v < 2 ^ g.slot) where
    -- room in the basic block
    room_is : (c : ℕ) → c < g.sib → c ≡ b.counter
        → append_to g st i v ≡ done (over_basic i (λ q. basic_of g (suc c) (set (own_slots g q) c (slot_for g v))) st)
    unfolding append_to append
    room_is c hc ec =
        rw (content_short g st i (omega arith), lt-ltb b.counter g.sib (omega arith), ← ec)

    pub append_room : (c : ℕ) → c < g.sib → c ≡ b.counter → (a u : List ℕ) (at : ℕ) (r : Answer)
        → at ≡ basic_slot g i c → a ≡ slot_put g t at (slot_for g v) → u ≡ basic_counter_put g a i (c + 1) → r ≡ said_at (basic_number g i c) → Appended g t u i v r
    append_room c hc ec a u at r ep ea eu er =
        let F = T.proper in
        let count : Basic → Basic = with_basic_counter (suc c) in
        let A = stored_basic_slot g t T i hi c (slot_for g v) hc hx a (ea ∙ ap (λ (n : ℕ). slot_put g t n (slot_for g v)) ep) in
        let B = stored_basic_counter g a A.table i hi u (suc c) (omega (arith, F.basic_holds)) (eu ∙ ap (basic_counter_put g a i) (add-one c)) in
        done_as u (over_basic i (λ q. count (slot_in g c (slot_for g v) q)) st) r (room_is c hc ec)
        (stored_as (over_basic i (λ q. count (slot_in g c (slot_for g v) q)) st)
        (stored_then (over_basic i count) A B)
        (basic_twice i count (slot_in g c (slot_for g v)) st (omega (arith, basics g t, hi))))
        (er ∙ ap said_at (sym (room_number g F st i c hc ec)))

    -- the basic block is full
    module _ (full : b.counter ≡ g.sib) where
      abbrev further : ℕ → State → State
      further f = over_basic i (with_basic_front (suc g.sib) f)

      full_is : append_to g st i v ≡ extended g st i [] b.head (slot_for g v) further
      unfolding append_to append
      full_is = rw (content_short g st i (omega arith), le-ltb b.counter g.sib (omega arith))

      pub first_refused : (why : Refusal) → free_of g st ≡ Err why → Appended g t t i v (Err why)
      first_refused why e = refused_as why (ap told full_is ∙ no_take g st [] _ added why e)

      pub append_first : (f l next : ℕ) (k : Takes g st f next) → l ≡ b.head → (a u : List ℕ) (r : Answer)
          → Stored g t a (over_basic i (with_basic_front (g.sib + 1) f) st) → Stored g a u (taken g i f next l (slot_for g v) (decode g a)) → r ≡ said_at (overflow_number g f 0)
          → Appended g t u i v r
      append_first f l next k el a u r A B er =
          done_as u (taken g i f next l (slot_for g v) (further f st)) r
          (full_is ∙ extended_to k i [] b.head (slot_for g v) further refl ∙ rw el)
          (stored_then (taken g i f next l (slot_for g v))
          (stored_as (further f st) A (ap (λ (n : ℕ). over_basic i (with_basic_front n f) st) (add-one g.sib))) B)
          (er ∙ ap said_at (sym (first_number g T.proper st i f k.first full)))

    -- the list overflows
    module _ (h j : ℕ) (W : EndsIn g st i h j) where
      abbrev o : Overflow
      o = overflow_at st.overflow j

      head_last : j ≡ last_from g i g.nob st.overflow b.head
      head_last = W.last ∙ ap (last_from g i g.nob st.overflow) W.head

      followed_is : OwnFollowed g i g.nob st.overflow b.head
      followed_is = followed g st.overflow i g.nob b.head (omega (arith, head_last, W.low))

      last_is : last_in g (some followed_is.blocks) ≡ j
      unfolding last_from
      last_is = ap (last_in g) (sym followed_is.are) ∙ sym head_last

      has_is : (f : ℕ) → has_block g g.nob st.overflow h f ≡ ltb 0 (occurs f followed_is.blocks)
      has_is f = ap (λ (n : ℕ). has_block g g.nob st.overflow n f) W.head ∙ has_as g st.overflow f g.nob b.head followed_is.blocks (owns g st.overflow i followed_is).found

      abbrev grown : Done
      grown = done (over_overflow j (one_more (slot_for g v)) st)

      abbrev go_on : ℕ → State → State
      go_on f = over_overflow j (with_front g.sio f)

      abbrev longer : List ℕ → Done
      longer bs = extended g st i bs o.link (slot_for g v) go_on

      over_of : (bs : List ℕ) → last_in g (some bs) ≡ j → append g st i bs (slot_for g v) ≡ cond (ltb (suc o.counter) g.sio) grown (longer bs)
      unfolding append
      over_of [] e = absurd (omega (arith, W.low))
      over_of (c ∷ cs) e = rw e

      over_is : append_to g st i v ≡ cond (ltb (suc o.counter) g.sio) grown (longer followed_is.blocks)
      unfolding append_to
      over_is = rw (content_long g st i W.full followed_is) (over_of followed_is.blocks last_is)

      -- the number of the slot behind the list's last
      end_number_lem : number_for g st i ≡ behind_last g T.proper st.overflow (sized g t T) st.free j
      end_number_lem = over_number g T.proper st i (sized g t T) W.full followed_is j last_is

      pub append_last : (n : ℕ) → n ≡ suc o.counter → n < g.sio → (a u : List ℕ) (at : ℕ) (r : Answer)
          → at ≡ overflow_slot g j n → a ≡ slot_put g t at (slot_for g v) → u ≡ overflow_counter_put g a j n → r ≡ said_at (overflow_number g j n) → Appended g t u i v r
      append_last n en hn a u at r ep ea eu er =
          let F = T.proper in
          let put : Overflow → Overflow = with_slot n (slot_for g v) in
          let count : Overflow → Overflow = with_counter n in
          let A = stored_overflow_slot g t T j W.low n (slot_for g v) hn hx a (ea ∙ ap (λ (m : ℕ). slot_put g t m (slot_for g v)) ep) in
          let B = stored_overflow_counter g a A.table j W.low u n (omega (arith, F.overflow_holds)) eu in
          done_as u (over_overflow j (λ q. count (put q)) st) r
          (over_is
          ∙ rw (lt-ltb (suc o.counter) g.sio (omega arith))
          (ap (λ (m : ℕ). done (over_overflow j (λ q. with_counter m (with_slot m (slot_for g v) q)) st)) (sym en)))
          (stored_as (over_overflow j (λ q. count (put q)) st)
          (stored_then (over_overflow j count) A B)
          (overflow_twice j count put st (omega (arith, overflows g t, W.low))))
          (er ∙ ap said_at (ap (overflow_number g j) en ∙ sym (end_number_lem ∙ rw (lt-ltb (suc o.counter) g.sio (omega arith)))))

      module _ (full : g.sio ≤ suc o.counter) where
        more_is : append_to g st i v ≡ longer followed_is.blocks
        more_is = over_is ∙ rw (le-ltb (suc o.counter) g.sio full)

        pub more_refused : (why : Refusal) → free_of g st ≡ Err why → Appended g t t i v (Err why)
        more_refused why e = refused_as why (ap told more_is ∙ no_take g st followed_is.blocks _ added why e)

        pub more_met : (f next : ℕ) → Takes g st f next → true ≡ has_block g g.nob st.overflow h f → Appended g t t i v (Err refusal.Damage)
        more_met f next k m = refused_as refusal.Damage (ap told (more_is ∙ k.met followed_is.blocks _ (sym (m ∙ has_is f))))

        pub append_more : (f l next : ℕ) → Takes g st f next → false ≡ has_block g g.nob st.overflow h f → l ≡ o.link → (a u : List ℕ) (r : Answer)
            → Stored g t a (go_on f st) → Stored g a u (taken g i f next l (slot_for g v) (decode g a)) → r ≡ said_at (overflow_number g f 0)
            → Appended g t u i v r
        append_more f l next k m el a u r A B er =
            done_as u (taken g i f next l (slot_for g v) (go_on f st)) r
            (more_is ∙ extended_to k i followed_is.blocks o.link (slot_for g v) go_on (sym (m ∙ has_is f)) ∙ rw el)
            (stored_then (taken g i f next l (slot_for g v)) A B)
            (er ∙ ap said_at (ap (λ (x : ℕ). overflow_number g x 0) k.first ∙ sym (end_number_lem ∙ rw (le-ltb (suc o.counter) g.sio full))))
