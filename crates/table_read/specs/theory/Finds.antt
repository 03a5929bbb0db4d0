-- Laws of looking an entry up: where it stands, in one row of slots and in two.
use Rattle.std.specs.Prelude.{◌≡◌, refl, true, false, get_or, take, eqb, Err}
use Rattle.std.proofs.Math.Path.{sym, ap}
use Rattle.std.proofs.Common.{ap₂, ◌∙◌, length-append, get_or-append-add, lt-ltb, le-ltb}
use mathlib.Core.List.{List, [], ◌∷◌, ◌++◌}
use Rattle.std.proofs.Math.Option.{Option, none, some}
use Prim.Native.Nat.{ℕ, zero, suc, ◌+◌, ◌-◌, ◌≤◌, ◌<◌}
use native.Mathlib.Omega.{arith}
use Rattle.std.proofs.Math.Nat.{zero-add}
use Rattle.std.proofs.Math.Decide.{dec_le}
use Rattle.std.proofs.Math.ListN.{length, get_or-append}
use Rattle.laws.specs.Cases.{cases}
use Rattle.settings.specs.declared.layout.Layout.{Layout}
use Rattle.settings.specs.declared.refusal.Refusal.TheVariants as refusal
use Rattle.table.specs.State.{Overflow, State, basic_at, overflow_at, unpack, entry_of, label_of}
use Rattle.table.specs.Decode.{decode}
use Rattle.table.specs.Table.{Table}
use Rattle.table.specs.Follow.{Content, follow, content}
use Rattle.table.specs.Numbers.{basic_number, overflow_number, block_number, slot_number}
use Rattle.table.specs.Find.{position, is_held, find_followed, find_in}
use Rattle.table_read.specs.Steps.{slots_in, basic_run, displaced_run, overflow_run, last_from, OwnFollowed, Overflows, gather_from, find_from}
use Rattle.table_read.specs.BlockSlots.{blocks_in, number_from}
use Rattle.table_read.specs.theory.Reads.{slots_length, basic_slots_in, displaced_slots_in, overflow_slots_in, link_lt}
use Rattle.table_read.specs.theory.Walks.{OneStep, owns, followed, content_short, content_high, content_bad, content_long}
use Rattle.table_read.specs.theory.BlockSlots.{number_here, number_on}
use Rattle.table_read.specs.declared.slots.Slots.{Slots}
use Rattle.table.specs.Answer.{said, Answer}
use Rattle.table.specs.declared.answers.Word.TheVariants as word

module _ (g : Layout) (e : ℕ) where
  pub position_le : (es : List ℕ) → position g e es ≤ length es
  unfolding position
  position_le [] = omega arith
  position_le (x ∷ xs) =
      cases (eqb (entry_of g x) e)
      (λ p. rw p (omega arith))
      (λ p. rw p (omega (arith, position_le xs)))

  -- the first j slots do not hold the entry, and the next one does, if there is one
  pub position_is : (es : List ℕ) (j : ℕ) → j ≤ length es → ((k : ℕ) → k < j → eqb (entry_of g (get_or es k 0)) e ≡ false)
      → (j < length es → eqb (entry_of g (get_or es j 0)) e ≡ true) → position g e es ≡ j
  unfolding position
  position_is [] j h p q = omega arith
  position_is (x ∷ xs) zero h p q = rw (q (omega arith))
  position_is (x ∷ xs) (suc j) h p q =
      rw (p 0 (omega arith)) (ap suc (position_is xs j (omega arith) (λ k l. p (suc k) (omega arith)) (λ l. q (omega arith))))

  position_left : (xs ys : List ℕ) → position g e xs < length xs → position g e (xs ++ ys) ≡ position g e xs
  unfolding position
  position_left [] ys = λ h. absurd (omega arith)
  position_left (x ∷ xs) ys =
      cases (eqb (entry_of g x) e)
      (λ p. rw p (λ h. refl))
      (λ p. rw p (λ h. ap suc (position_left xs ys (omega arith))))

  position_right : (xs ys : List ℕ) → length xs ≤ position g e xs → position g e (xs ++ ys) ≡ length xs + position g e ys
  unfolding position
  position_right [] ys = λ h. sym (zero-add (position g e ys))
  position_right (x ∷ xs) ys =
      cases (eqb (entry_of g x) e)
      (λ p. rw p (λ h. absurd (omega arith)))
      (λ p. rw p (λ h. let q = position_right xs ys (omega arith) in omega arith))

  -- ---- what is answered, where `number` numbers the places

  module _ (number : ℕ → ℕ) where
    pub find_held : (es : List ℕ) (k j : ℕ) → j ≡ position g e es → j < length es
        → find_from g number e es k ≡ said word.Held (label_of g (get_or es j 0)) (k + suc j) (number j)
    unfolding find_from
    find_held es k j p h = let l : position g e es < length es = omega arith in rw (lt-ltb (position g e es) (length es) l, p)

    pub find_none : (es : List ℕ) (k j : ℕ) → j ≡ position g e es → length es ≤ j → find_from g number e es k ≡ said word.None 0 (k + length es) 0
    unfolding find_from
    find_none es k j p h = let l : length es ≤ position g e es = omega arith in rw (le-ltb (position g e es) (length es) l)

    pub find_left : (xs ys : List ℕ) (k : ℕ) → position g e xs < length xs → find_from g number e (xs ++ ys) k ≡ find_from g number e xs k
    find_left xs ys k h =
        let p = position_left xs ys h in
        let l = length-append xs ys in
        find_held (xs ++ ys) k (position g e (xs ++ ys)) refl (omega arith)
        ∙ ap (λ (n : ℕ). said word.Held (label_of g (get_or (xs ++ ys) n 0)) (k + suc n) (number n)) p
        ∙ ap (λ (x : ℕ). said word.Held (label_of g x) (k + suc (position g e xs)) (number (position g e xs))) (get_or-append xs ys 0 (position g e xs) h)
        ∙ sym (find_held xs k (position g e xs) refl h)

  -- other numbers, the same for the places that there are
  pub find_renumber : (f h : ℕ → ℕ) (es : List ℕ) (k : ℕ) → ((p : ℕ) → p < length es → f p ≡ h p) → find_from g f e es k ≡ find_from g h e es k
  find_renumber f h es k same = pick (dec_le (length es) (position g e es))
    where
      pick : Dec (length es ≤ position g e es) → find_from g f e es k ≡ find_from g h e es k
      pick (yes m) = find_none f es k (position g e es) refl m ∙ sym (find_none h es k (position g e es) refl m)
      pick (no m) =
          find_held f es k (position g e es) refl (omega arith)
          ∙ ap (said word.Held (label_of g (get_or es (position g e es) 0)) (k + suc (position g e es))) (same (position g e es) (omega arith))
          ∙ sym (find_held h es k (position g e es) refl (omega arith))

  pub find_right : (number later : ℕ → ℕ) (xs ys : List ℕ) (k : ℕ) → length xs ≤ position g e xs → ((p : ℕ) → number (length xs + p) ≡ later p)
      → find_from g number e (xs ++ ys) k ≡ find_from g later e ys (k + length xs)
  find_right number later xs ys k h same = pick (dec_le (length ys) (position g e ys))
    where
      pick : Dec (length ys ≤ position g e ys) → find_from g number e (xs ++ ys) k ≡ find_from g later e ys (k + length xs)
      pick (yes m) =
          let p = position_right xs ys h in
          let l = length-append xs ys in
          let z : k + length (xs ++ ys) ≡ k + length xs + length ys = omega arith in
          find_none number (xs ++ ys) k (position g e (xs ++ ys)) refl (omega arith)
          ∙ ap (λ (n : ℕ). said word.None 0 n 0) z
          ∙ sym (find_none later ys (k + length xs) (position g e ys) refl m)
      pick (no m) =
          let p = position_right xs ys h in
          let l = length-append xs ys in
          let z : k + suc (length xs + position g e ys) ≡ k + length xs + suc (position g e ys) = omega arith in
          find_held number (xs ++ ys) k (position g e (xs ++ ys)) refl (omega arith)
          ∙ ap (λ (n : ℕ). said word.Held (label_of g (get_or (xs ++ ys) n 0)) (k + suc n) (number n)) p
          ∙ ap₂ (λ (x n : ℕ). said word.Held (label_of g x) n (number (length xs + position g e ys))) (get_or-append-add xs ys (position g e ys) 0) z
          ∙ ap (said word.Held (label_of g (get_or ys (position g e ys) 0)) (k + length xs + suc (position g e ys))) (same (position g e ys))
          ∙ sym (find_held later ys (k + length xs) (position g e ys) refl (omega arith))

  pub find_all : (i : ℕ) (v : Content) → find_followed g i e (some v) ≡ find_from g (slot_number g i v.blocks) e v.slots 0
  unfolding find_followed find_from
  find_all i v =
      cases (is_held g e v.slots)
      (λ p. rw (p, zero-add (suc (position g e v.slots))))
      (λ p. rw (p, zero-add (length v.slots)))

-- ---- an overflow block: the last one, or one that goes on

module _ (g : Layout) (t : List ℕ) (T : Table g t) (f b c : ℕ) (r : Slots) (S : OneStep g (decode g t).overflow f b)
    (ec : c ≡ (overflow_at (decode g t).overflow b).counter) (er : r ≡ overflow_run g b c) where
  block_slots : take (suc (overflow_at (decode g t).overflow b).counter) (overflow_at (decode g t).overflow b).slots ≡ slots_in g t r
  block_slots = sym (ap (slots_in g t) (er ∙ ap (overflow_run g b) ec) ∙ overflow_slots_in g t T b (overflow_at (decode g t).overflow b).counter S.low)

  pub block_last : c < g.sio → gather_from g f (decode g t).overflow b ≡ slots_in g t r
  block_last l = S.last (omega (arith, ec)) ∙ block_slots

  pub block_more : g.sio ≤ c
      → gather_from g f (decode g t).overflow b ≡ slots_in g t r ++ gather_from g (f - 1) (decode g t).overflow (overflow_at (decode g t).overflow b).link
  block_more l = S.more (omega (arith, S.count)) ∙ ap (λ (xs : List ℕ). xs ++ gather_from g (f - 1) (decode g t).overflow (overflow_at (decode g t).overflow b).link) block_slots

-- found in it, not found in the last one, and not found in one that goes on
module _ (g : Layout) (t : List ℕ) (T : Table g t) (e n f b c j : ℕ) (r : Slots) (S : OneStep g (decode g t).overflow f b)
    (ec : c ≡ (overflow_at (decode g t).overflow b).counter) (er : r ≡ overflow_run g b c) (ej : j ≡ position g e (slots_in g t r)) where
  os : List Overflow
  os = (decode g t).overflow

  -- what find answers from block b on
  from : ℕ → ℕ → ℕ → Answer
  from m x k = find_from g (number_from g m os x) e (gather_from g m os x) k

  pub block_held : j < r.count
      → said word.Held (label_of g (get_or (slots_in g t r) j 0)) (n + suc j) (overflow_number g b j)
      ≡ find_from g (number_from g f (decode g t).overflow b) e (gather_from g f (decode g t).overflow b) n
  unfolding overflow_run os from
  block_held h = pick (dec_le g.sio c)
    where
      low : j < length (slots_in g t r)
      low = omega (arith, slots_length g t r, h)

      fits : j < g.sio
      fits = omega (arith, h, ap (λ (s : Slots). s.count) er)

      here : said word.Held (label_of g (get_or (slots_in g t r) j 0)) (n + suc j) (overflow_number g b j) ≡ find_from g (number_from g f os b) e (slots_in g t r) n
      here =
          ap (said word.Held (label_of g (get_or (slots_in g t r) j 0)) (n + suc j)) (sym (number_here g os f b S j fits))
          ∙ sym (find_held g e (number_from g f os b) (slots_in g t r) n j ej low)

      pick : Dec (g.sio ≤ c) → said word.Held (label_of g (get_or (slots_in g t r) j 0)) (n + suc j) (overflow_number g b j) ≡ from f b n
      pick (yes l) =
          here
          ∙ sym
          (ap (λ (xs : List ℕ). find_from g (number_from g f os b) e xs n) (block_more g t T f b c r S ec er l)
          ∙ find_left g e (number_from g f os b) (slots_in g t r) (gather_from g (f - 1) os (overflow_at os b).link) n (omega (arith, low, ej)))
      pick (no l) = here ∙ sym (ap (λ (xs : List ℕ). find_from g (number_from g f os b) e xs n) (block_last g t T f b c r S ec er (omega arith)))

  pub block_none : r.count ≤ j → c < g.sio
      → said word.None 0 (n + r.count) 0 ≡ find_from g (number_from g f (decode g t).overflow b) e (gather_from g f (decode g t).overflow b) n
  unfolding os
  block_none h l =
      ap (λ (m : ℕ). said word.None 0 (n + m) 0) (sym (slots_length g t r))
      ∙ sym (find_none g e (number_from g f os b) (slots_in g t r) n j ej (omega (arith, slots_length g t r)))
      ∙ sym (ap (λ (xs : List ℕ). find_from g (number_from g f os b) e xs n) (block_last g t T f b c r S ec er l))

  pub block_on : r.count ≤ j → c ≡ g.sio
      → find_from g (number_from g (f - 1) (decode g t).overflow (overflow_at (decode g t).overflow b).link) e (gather_from g (f - 1) (decode g t).overflow (overflow_at (decode g t).overflow b).link) (n + r.count)
      ≡ find_from g (number_from g f (decode g t).overflow b) e (gather_from g f (decode g t).overflow b) n
  unfolding overflow_run os from
  block_on h l =
      ap (λ (m : ℕ). from (f - 1) (overflow_at os b).link (n + m)) (sym (slots_length g t r))
      ∙ sym
      (find_right g e (number_from g f os b) (number_from g (f - 1) os (overflow_at os b).link) (slots_in g t r) (gather_from g (f - 1) os (overflow_at os b).link) n
      (omega (arith, slots_length g t r, ej))
      (λ p.
      let full : length (slots_in g t r) ≡ g.sio = omega (arith, slots_length g t r, ap (λ (s : Slots). s.count) er) in
      ap (λ (m : ℕ). number_from g f os b (m + p)) full ∙ number_on g os f b S (sym ec ∙ l) p))
      ∙ sym (ap (λ (xs : List ℕ). find_from g (number_from g f os b) e xs n) (block_more g t T f b c r S ec er (omega arith)))

-- ---- a list, by its basic block's counter

module _ (g : Layout) (st : State) (i e : ℕ) where
  find_damaged : content g st i ≡ none → Err refusal.Damage ≡ find_in g st i e
  unfolding find_in find_followed
  find_damaged q = rw q

  find_whole : (v : Content) → content g st i ≡ some v → find_in g st i e ≡ find_from g (slot_number g i v.blocks) e v.slots 0
  unfolding find_in
  find_whole v q = ap (find_followed g i e) q ∙ find_all g e i v

-- the number of a place in the basic block, and behind it
module _ (g : Layout) (i : ℕ) (bs : List ℕ) (p : ℕ) where
  pub number_basic : p < g.sib → slot_number g i bs p ≡ basic_number g i p
  unfolding slot_number
  number_basic h = rw (lt-ltb p g.sib h)

  pub number_behind : slot_number g i bs (g.sib + p) ≡ block_number g bs p
  unfolding slot_number
  number_behind =
      let e : g.sib + p - g.sib ≡ p = omega arith in
      rw (le-ltb (g.sib + p) g.sib (omega arith), e)

module _ (g : Layout) (t : List ℕ) (T : Table g t) (i e : ℕ) (il : i < g.lists) where
  pub find_counted : (c : ℕ) (r : Slots) → c ≡ (basic_at (decode g t).basic i).counter → c ≤ g.sib → r ≡ basic_run g i c
      → find_from g (basic_number g i) e (slots_in g t r) 0 ≡ find_in g (decode g t) i e
  unfolding basic_run
  find_counted c r ec l er =
      let k : (basic_at (decode g t).basic i).counter ≤ g.sib = omega arith in
      let n : length (slots_in g t r) ≤ g.sib = omega (arith, slots_length g t r, ap (λ (s : Slots). s.count) er) in
      sym (find_renumber g e (slot_number g i []) (basic_number g i) (slots_in g t r) 0 (λ p h. number_basic g i [] p (omega arith)))
      ∙ ap (λ (s : Slots). find_from g (slot_number g i []) e (slots_in g t s) 0) (er ∙ ap (basic_run g i) ec)
      ∙ ap (λ (xs : List ℕ). find_from g (slot_number g i []) e xs 0) (basic_slots_in g t T i (basic_at (decode g t).basic i).counter il k)
      ∙ sym (find_whole g (decode g t) i e _ (content_short g (decode g t) i k))

  pub find_high : (c : ℕ) → c ≡ (basic_at (decode g t).basic i).counter → suc g.sib < c → Err refusal.Damage ≡ find_in g (decode g t) i e
  find_high c ec l = find_damaged g (decode g t) i e (content_high g (decode g t) i (omega (arith, ec)))

  module _ (h last : ℕ) (O : Overflows g (decode g t) i h) (el : last ≡ last_from g i g.nob (decode g t).overflow h) where
    end : last ≡ last_from g i g.nob (decode g t).overflow (basic_at (decode g t).basic i).head
    end = el ∙ ap (last_from g i g.nob (decode g t).overflow) O.head

    pub find_bad : g.nob ≤ last → Err refusal.Damage ≡ find_in g (decode g t) i e
    find_bad l = find_damaged g (decode g t) i e (content_bad g (decode g t) i O.counter (omega (arith, l, end)))

    module _ (d j : ℕ) (r : Slots) (low : last < g.nob) (ed : d ≡ (overflow_at (decode g t).overflow last).link) (er : r ≡ displaced_run g i d)
        (ej : j ≡ position g e (slots_in g t r)) where
      first_slots : slots_in g t r ≡ unpack g (overflow_at (decode g t).overflow last).link (basic_at (decode g t).basic i).rest
      first_slots =
          ap (slots_in g t) (er ∙ ap (displaced_run g i) ed)
          ∙ displaced_slots_in g t T i (overflow_at (decode g t).overflow last).link il (link_lt g t T last low)

      own : OwnFollowed g i g.nob (decode g t).overflow (basic_at (decode g t).basic i).head
      own = followed g (decode g t).overflow i g.nob (basic_at (decode g t).basic i).head (omega (arith, low, end))

      whole : find_in g (decode g t) i e ≡ find_from g (slot_number g i own.blocks) e (slots_in g t r ++ gather_from g g.nob (decode g t).overflow h) 0
      whole =
          find_whole g (decode g t) i e _ (content_long g (decode g t) i O.counter own)
          ∙ ap (λ (x : ℕ). find_from g (slot_number g i own.blocks) e (unpack g (overflow_at (decode g t).overflow x).link (basic_at (decode g t).basic i).rest ++ gather_from g g.nob (decode g t).overflow (basic_at (decode g t).basic i).head) 0) (sym end)
          ∙ ap₂ (λ (xs : List ℕ) (x : ℕ). find_from g (slot_number g i own.blocks) e (xs ++ gather_from g g.nob (decode g t).overflow x) 0) (sym first_slots) (sym O.head)

      long : length (slots_in g t r) ≡ g.sib
      unfolding displaced_run
      long = slots_length g t r ∙ ap (λ (s : Slots). s.count) er

      pub find_first : j < g.sib → said word.Held (label_of g (get_or (slots_in g t r) j 0)) (0 + suc j) (basic_number g i j) ≡ find_in g (decode g t) i e
      find_first l =
          sym
          (whole
          ∙ find_left g e (slot_number g i own.blocks) (slots_in g t r) (gather_from g g.nob (decode g t).overflow h) 0 (omega (arith, long, ej))
          ∙ find_held g e (slot_number g i own.blocks) (slots_in g t r) 0 j ej (omega (arith, long))
          ∙ ap (said word.Held (label_of g (get_or (slots_in g t r) j 0)) (0 + suc j)) (number_basic g i own.blocks j l))

      -- the numbers of the places in the list's overflow blocks
      behind : (p : ℕ) → slot_number g i own.blocks (length (slots_in g t r) + p) ≡ number_from g g.nob (decode g t).overflow h p
      unfolding number_from
      behind p =
          ap (λ (m : ℕ). slot_number g i own.blocks (m + p)) long
          ∙ number_behind g i own.blocks p
          ∙ ap (λ (o : Option (List ℕ)). block_number g (blocks_in o) p) (sym (owns g (decode g t).overflow i own).found)
          ∙ ap (λ (x : ℕ). block_number g (blocks_in (follow g g.nob (decode g t).overflow x)) p) (sym O.head)

      pub find_rest : g.sib ≤ j
          → find_from g (number_from g g.nob (decode g t).overflow h) e (gather_from g g.nob (decode g t).overflow h) g.sib ≡ find_in g (decode g t) i e
      find_rest l =
          sym
          (whole
          ∙ find_right g e (slot_number g i own.blocks) (number_from g g.nob (decode g t).overflow h) (slots_in g t r) (gather_from g g.nob (decode g t).overflow h) 0 (omega (arith, long, ej)) behind
          ∙ ap (find_from g (number_from g g.nob (decode g t).overflow h) e (gather_from g g.nob (decode g t).overflow h)) (zero-add (length (slots_in g t r)) ∙ long))
