-- Laws of counting records: slot n of slots in two rows, and record n of the lists from one on.
use mathlib.Core.Path.{◌≡◌, refl, sym, ap, ap₂, ◌∙◌}
use mathlib.Core.List.{List, ◌∷◌, ◌++◌}
use mathlib.Core.Option.{Option, none, some}
use Prim.Native.Nat.{ℕ, suc, ◌+◌, ◌-◌, ◌≤◌, ◌<◌}
use native.Mathlib.Omega.{arith}
use native.Mathlib.Decide.{dec_le}
use lib.ListN.{length, get_or, drop, length-append, get_or-append, drop_of_length-le}
use lib.Seq.{get_or-append-add, drop-cons}
use lib.Dec.{ltb}
use borrow.Author.Tests.{lt-ltb, le-ltb, ltb-true, ltb-false}
use Rattle.std.specs.Prelude.{Ok, Err, Some, None}
use Rattle.std.specs.declared.result.Result.{Result}
use Rattle.laws.specs.Cases.{cases}
use Rattle.settings.specs.Layout.{layout_of}
use Rattle.keys.specs.theory.Keys.{number_key}
use Rattle.settings.specs.declared.settings.Settings.{Settings}
use Rattle.settings.specs.declared.layout.Layout.{Layout}
use Rattle.table.specs.State.{Basic, Overflow, State, basic_at, overflow_at, unpack, empty_basic}
use Rattle.table.specs.Decode.{decode}
use Rattle.table.specs.Table.{Table}
use Rattle.table.specs.Follow.{Content, mk_content, follow, own_blocks, content_of, content}
use Rattle.table.specs.Record.{record_from, record_in}
use Rattle.table_read.specs.Steps.{slots_in, basic_run, displaced_run, overflow_run, last_from, Followed, OwnFollowed, Overflows, gather_from}
use Rattle.table_record.specs.RecordSteps.{slot_nth, nth_of, nth_in, on_nth, records_from}
use Rattle.table_read.specs.theory.Reads.{slots_length, unpack_length, basic_slots_in, displaced_slots_in, link_lt}
use Rattle.table_read.specs.theory.Walks.{one_step, followed, ended_own, content_short, content_bad, content_long, OneStep}
use Rattle.table_read.specs.theory.Finds.{block_last, block_more}
use Rattle.table_read.specs.declared.slots.Slots.{Slots}
use Rattle.table.specs.Answer.{RecordAnswer}
use Rattle.table.specs.declared.answers.Record.{Record}
use Rattle.table.specs.declared.damage.Damage.{Damage}
use Rattle.table_record.specs.declared.Nth.{Nth}
use Rattle.table_record.specs.declared.Nth.TheVariants as nth

-- what stands at a number in a list that has an end
abbrev pub stands : Nth → Result Nth Damage
stands = Ok

-- the answer with a record
abbrev pub one : Record → RecordAnswer
one r = Ok (Some r)

module _ (g : Layout) where
  -- ---- slot n of a row

  pub nth_here : (es : List ℕ) (n : ℕ) → n < length es → nth_of g es n ≡ slot_nth g (get_or es n 0)
  unfolding nth_of
  nth_here es n h = rw (lt-ltb n (length es) h)

  pub nth_past : (es : List ℕ) (n : ℕ) → length es ≤ n → nth_of g es n ≡ nth.Past (n - length es)
  unfolding nth_of
  nth_past es n h = rw (le-ltb n (length es) h)

  -- ---- slot n of two rows

  pub nth_first : (xs ys : List ℕ) (n : ℕ) → n < length xs → nth_of g (xs ++ ys) n ≡ nth_of g xs n
  nth_first xs ys n h =
      nth_here (xs ++ ys) n (omega (arith, length-append xs ys))
      ∙ ap (slot_nth g) (get_or-append xs ys 0 n h)
      ∙ sym (nth_here xs n h)

  pub nth_second : (xs ys : List ℕ) (n : ℕ) → length xs ≤ n → nth_of g (xs ++ ys) n ≡ nth_of g ys (n - length xs)
  nth_second xs ys n h =
      let e : n ≡ length xs + (n - length xs) = omega arith in
      let l = length-append xs ys in
      cases (ltb (n - length xs) (length ys))
      (λ p.
      let q : n - length xs < length ys = ltb-true (n - length xs) (length ys) p in
      nth_here (xs ++ ys) n (omega arith)
      ∙ ap (slot_nth g) (ap (λ (k : ℕ). get_or (xs ++ ys) k 0) e ∙ get_or-append-add xs ys (n - length xs) 0)
      ∙ sym (nth_here ys (n - length xs) q))
      (λ p.
      let q : length ys ≤ n - length xs = ltb-false (n - length xs) (length ys) p in
      let d : n - length (xs ++ ys) ≡ n - length xs - length ys = omega arith in
      nth_past (xs ++ ys) n (omega arith) ∙ ap nth.Past d ∙ sym (nth_past ys (n - length xs) q))

-- a counter of sib + 1 says that there are overflow blocks
pub goes_on : (g : Layout) (st : State) (i c h : ℕ) → c ≡ (basic_at st.basic i).counter → h ≡ (basic_at st.basic i).head → g.sib < c → c ≤ g.sib + 1 → Overflows g st i h
goes_on g st i c h ec eh high low = record { counter = omega arith; head = eh }

-- ---- the slots of an overflow block, and those of the blocks behind it

module _ (g : Layout) (t : List ℕ) (T : Table g t) (k b c : ℕ) (run : Slots) (f : Followed g k (decode g t).overflow b)
    (count_is : c ≡ (overflow_at (decode g t).overflow b).counter) (run_is : run ≡ overflow_run g b c) where
  row : OneStep g (decode g t).overflow k b
  row = one_step g (decode g t).overflow k b f

  pub nth_in_block : (m : ℕ) → m < run.count → nth_of g (slots_in g t run) m ≡ nth_of g (gather_from g k (decode g t).overflow b) m
  nth_in_block m h =
      let l : m < length (slots_in g t run) = omega (arith, slots_length g t run) in
      pick l (dec_le g.sio c)
    where
      pick : m < length (slots_in g t run) → Dec (g.sio ≤ c) → nth_of g (slots_in g t run) m ≡ nth_of g (gather_from g k (decode g t).overflow b) m
      pick l (yes p) = rw (block_more g t T k b c run row count_is run_is p) (sym (nth_first g _ _ m l))
      pick l (no p) = rw (block_last g t T k b c run row count_is run_is (omega arith))

  pub nth_past_last : (m : ℕ) → run.count ≤ m → c < g.sio → nth.Past (m - run.count) ≡ nth_of g (gather_from g k (decode g t).overflow b) m
  nth_past_last m h l =
      let e = slots_length g t run in
      sym (ap (λ (es : List ℕ). nth_of g es m) (block_last g t T k b c run row count_is run_is l) ∙ nth_past g (slots_in g t run) m (omega arith) ∙ ap (λ (k : ℕ). nth.Past (m - k)) e)

  pub nth_past_block : (m : ℕ) → run.count ≤ m → g.sio ≤ c
      → nth_of g (gather_from g (k - 1) (decode g t).overflow (overflow_at (decode g t).overflow b).link) (m - run.count) ≡ nth_of g (gather_from g k (decode g t).overflow b) m
  nth_past_block m h l =
      let e = slots_length g t run in
      let d : m - run.count ≡ m - length (slots_in g t run) = omega arith in
      sym
      (ap (λ (es : List ℕ). nth_of g es m) (block_more g t T k b c run row count_is run_is l)
      ∙ nth_second g (slots_in g t run) _ m (omega arith)
      ∙ ap (nth_of g (gather_from g (k - 1) (decode g t).overflow (overflow_at (decode g t).overflow b).link)) (sym d))

-- ---- a list's slots

module _ (g : Layout) (t : List ℕ) (T : Table g t) (i : ℕ) (l : i < g.lists) where
  pub nth_damaged : (n : ℕ) → content g (decode g t) i ≡ none → Err (record {}) ≡ nth_in g (content g (decode g t) i) n
  unfolding nth_in
  nth_damaged n e = sym (ap (λ (o : Option Content). nth_in g o n) e)

  -- those of a list without overflow blocks
  pub nth_short : (n : ℕ) (run : Slots) (c : ℕ) → c ≡ (basic_at (decode g t).basic i).counter → c ≤ g.sib → run ≡ basic_run g i c
      → stands (nth_of g (slots_in g t run) n) ≡ nth_in g (content g (decode g t) i) n
  unfolding nth_in
  nth_short n run c ec low er =
      let k : (basic_at (decode g t).basic i).counter ≤ g.sib = omega arith in
      ap (λ (b : Slots). stands (nth_of g (slots_in g t b) n)) (er ∙ ap (basic_run g i) ec)
      ∙ ap (λ (es : List ℕ). stands (nth_of g es n)) (basic_slots_in g t T i (basic_at (decode g t).basic i).counter l k)
      ∙ sym (ap (λ (o : Option Content). nth_in g o n) (content_short g (decode g t) i k))

  -- those of a list whose overflow blocks start at h and end with z
  module _ (h z : ℕ) (over : Overflows g (decode g t) i h) (last_is : z ≡ last_from g i g.nob (decode g t).overflow h) where
    last_at : last_from g i g.nob (decode g t).overflow (basic_at (decode g t).basic i).head ≡ z
    last_at = sym (last_is ∙ ap (last_from g i g.nob (decode g t).overflow) over.head)

    pub list_unended : g.nob ≤ z → content g (decode g t) i ≡ none
    list_unended bad = content_bad g (decode g t) i over.counter (omega (arith, last_at))

    module _ (sound : z < g.nob) where
      own_at : OwnFollowed g i g.nob (decode g t).overflow (basic_at (decode g t).basic i).head
      own_at = followed g (decode g t).overflow i g.nob (basic_at (decode g t).basic i).head (omega (arith, last_at))

      pub list_own : OwnFollowed g i g.nob (decode g t).overflow h
      list_own =
          record {
            blocks = own_at.blocks;
            are = ap (λ (b : ℕ). own_blocks i (decode g t).overflow (follow g g.nob (decode g t).overflow b)) over.head ∙ own_at.are;
          }

      pub list_followed : Followed g g.nob (decode g t).overflow h
      list_followed = ended_own g (decode g t).overflow i list_own

      abbrev first : List ℕ
      first = unpack g (overflow_at (decode g t).overflow z).link (basic_at (decode g t).basic i).rest

      first_length : length first ≡ g.sib
      first_length = unpack_length g (overflow_at (decode g t).overflow z).link (basic_at (decode g t).basic i).rest

      pub list_content : content g (decode g t) i ≡ some (mk_content list_own.blocks (first ++ gather_from g g.nob (decode g t).overflow h))
      unfolding list_own
      list_content =
          content_long g (decode g t) i over.counter own_at
          ∙ ap₂
          (λ (x y : ℕ). some (mk_content own_at.blocks (unpack g (overflow_at (decode g t).overflow x).link (basic_at (decode g t).basic i).rest ++ gather_from g g.nob (decode g t).overflow y)))
          last_at
          (sym over.head)

      nth_list : (n : ℕ) → nth_in g (content g (decode g t) i) n ≡ stands (nth_of g (first ++ gather_from g g.nob (decode g t).overflow h) n)
      unfolding nth_in
      nth_list n = ap (λ (o : Option Content). nth_in g o n) list_content

      pub nth_displaced : (n : ℕ) (run : Slots) (d : ℕ) → d ≡ (overflow_at (decode g t).overflow z).link → run ≡ displaced_run g i d → n < g.sib
          → stands (nth_of g (slots_in g t run) n) ≡ nth_in g (content g (decode g t) i) n
      nth_displaced n run d ed er low =
          ap (λ (b : Slots). stands (nth_of g (slots_in g t b) n)) (er ∙ ap (displaced_run g i) ed)
          ∙ ap (λ (es : List ℕ). stands (nth_of g es n)) (displaced_slots_in g t T i (overflow_at (decode g t).overflow z).link l (link_lt g t T z sound))
          ∙ sym (nth_list n ∙ ap stands (nth_first g first _ n (omega (arith, first_length))))

      pub nth_behind : (n : ℕ) → g.sib ≤ n
          → stands (nth_of g (gather_from g g.nob (decode g t).overflow h) (n - g.sib)) ≡ nth_in g (content g (decode g t) i) n
      nth_behind n high =
          sym
          (nth_list n
          ∙ ap stands (nth_second g first _ n (omega (arith, first_length)))
          ∙ ap (λ (k : ℕ). stands (nth_of g (gather_from g g.nob (decode g t).overflow h) (n - k))) first_length)

-- ---- the lists in a row

module _ (s : Settings) where
  record_step : (i : ℕ) (b : Basic) (bs : List Basic) (os : List Overflow) (n : ℕ) (o : Option Content) → content_of (layout_of s) i b os ≡ o
      → record_from s i (b ∷ bs) os n ≡ on_nth s i (nth_in (layout_of s) o n) (λ m. record_from s (suc i) bs os m)
  unfolding record_from nth_in nth_of
  record_step i b bs os n none e = rw e
  record_step i b bs os n (some v) e =
      cases (ltb n (length v.slots))
      (λ p. rw (e, p, number_key))
      (λ p. rw (e, p))

  module _ (st : State) where
    pub records_all : (n : ℕ) → records_from s st 0 n ≡ record_in s st n
    unfolding records_from record_in
    records_all n = refl

    pub records_none : (i n : ℕ) → length st.basic ≤ i → records_from s st i n ≡ Ok None
    unfolding records_from record_from
    records_none i n h = rw (drop_of_length-le st.basic h)

    pub records_step : (g : Layout) → layout_of s ≡ g → (i n : ℕ) → i < length st.basic → (r : Result Nth Damage) → r ≡ nth_in g (content g st i) n
        → records_from s st i n ≡ on_nth s i r (λ m. records_from s st (suc i) m)
    unfolding records_from content
    records_step g e i n h r w =
        ap (λ (bs : List Basic). record_from s i bs st.overflow n) (drop-cons st.basic i empty_basic h)
        ∙ record_step i (basic_at st.basic i) (drop (suc i) st.basic) st.overflow n (content_of (layout_of s) i (basic_at st.basic i) st.overflow) refl
        ∙ ap (λ (x : Result Nth Damage). on_nth s i x (λ m. record_from s (suc i) (drop (suc i) st.basic) st.overflow m))
        (ap (λ (x : Layout). nth_in x (content_of x i (basic_at st.basic i) st.overflow) n) e ∙ sym w)
