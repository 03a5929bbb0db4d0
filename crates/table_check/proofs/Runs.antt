-- The slots of a block read where they are: their entries, looked for in the blocks and in the slots before them.
use mathlib.Core.Path.{◌≡◌, sym, ap, ap₂, ◌∙◌}
use mathlib.Core.Bool.{true, false, ◌&&◌, and-true}
use mathlib.Core.List.{List, [], ◌++◌, append-nil}
use Prim.Native.Nat.{ℕ, suc, ◌+◌, ◌-◌, ◌*◌, ◌≤◌, ◌<◌, min}
use native.Mathlib.Omega.{arith}
use lib.ListN.{length, get_or, take, drop}
use lib.Dec.{eqb, ltb}
use borrow.Author.Tests.{lt-ltb, le-ltb}
use Rattle.laws.specs.Folds.{all_zero, every_below}
use Rattle.laws.specs.Cases.{cond_same}
use Rattle.bits.specs.Field.{field}
use Rattle.settings.specs.Proper.{Proper}
use Rattle.settings.specs.declared.layout.Layout.{Layout}
use Rattle.table.specs.State.{Basic, Overflow, basic_at, overflow_at, unpack, own_slots, entry_of}
use Rattle.table.specs.Decode.{basic_slots, decode}
use Rattle.table.specs.Table.{Table}
use Rattle.table.specs.Follow.{further, step_at}
use Rattle.table.specs.Find.{position}
use Rattle.table.specs.Check.{has_entry, no_entry_twice}
use Rattle.table_read.specs.Steps.{restored_bytes, First, SlotsWithin, slots_in, basic_run, displaced_run, last_from}
use Rattle.table_read.specs.theory.Reads.{slots_length, entry_in, overflow_run_within, basic_slots_in, displaced_slots_in, overflow_slots_in, link_lt}
use Rattle.table_read.specs.declared.slots.Slots.{Slots}
use Rattle.table.specs.declared.step.Step.{Step}
use Rattle.table.specs.declared.step.Step.TheVariants.{Last}
use Rattle.table_check.specs.Entries.{run_of, slots_from, slots_after, alone}
use Rattle.table_check.specs.Lists.{short_sound, long_from, long_apart}
use Rattle.table_check.proofs.Zeros.{basic_zeros}
use Rattle.table_check.proofs.Doubles.{held_position, held_left, held_right, position_at, position_from, apart_both, slots_on}

-- ---- slot j of a run

module _ (g : Layout) (F : Proper g) (t : List ℕ) (b : Slots) (R : SlotsWithin g t b) where
  pub entry_is : (j at : ℕ) → j < b.count → at ≡ b.start + j * g.slot → field (restored_bytes t b) at g.bie ≡ entry_of g (get_or (slots_in g t b) j 0)
  entry_is j at h e =
      ap (λ (a : ℕ). field (restored_bytes t b) a g.bie) e ∙ sym (entry_in g t b F j h)

  -- the first j slots looked through for an entry: it stands in one of them, or in none
  pub met_before : (e j r : ℕ) → j ≤ b.count → First (restored_bytes t b) b.start g.slot g.bie e j r → r < j → position g e (slots_in g t b) < j
  met_before e j r h f l =
      let n = slots_length g t b in
      omega (arith, position_at g e (slots_in g t b) r (omega arith) (entry_in g t b F r (omega arith) ∙ f.found l))

  pub none_before : (e j r : ℕ) → j ≤ b.count → First (restored_bytes t b) b.start g.slot g.bie e j r → j ≤ r → j ≤ position g e (slots_in g t b)
  none_before e j r h f l =
      let n = slots_length g t b in
      position_from g e (slots_in g t b) j (omega arith) (λ k i q. f.before k (omega arith) (sym (entry_in g t b F k (omega arith)) ∙ q))

-- ---- whether its entry is alone

module _ (g : Layout) (xs ys : List ℕ) (j e : ℕ) (is : e ≡ entry_of g (get_or xs j 0)) where
  pub alone_before : position g e xs < j → alone g xs ys j ≡ false
  unfolding alone
  alone_before h = rw (← is, lt-ltb (position g e xs) j h)

  pub alone_behind : has_entry g e ys ≡ true → alone g xs ys j ≡ false
  unfolding alone
  alone_behind h = rw (← is, h) (cond_same (ltb (position g e xs) j) false)

  pub alone_yes : j ≤ position g e xs → has_entry g e ys ≡ false → alone g xs ys j ≡ true
  unfolding alone
  alone_yes h k = rw (← is, le-ltb (position g e xs) j h, k)

-- ---- the blocks of a list

module _ (g : Layout) (t : List ℕ) (T : Table g t) where
  pub run_within : (b c : ℕ) → b < g.nob → SlotsWithin g t (run_of g b c)
  unfolding run_of
  run_within b c l = overflow_run_within g t T b (min c g.sio) l

  -- block b, whose slots in use are r and whose step is s, where at most n blocks are followed
  module _ (n k b c : ℕ) (r : Slots) (s : Step) (h : n ≡ suc k) (l : b < g.nob) (ec : c ≡ (overflow_at (decode g t).overflow b).counter)
      (er : r ≡ run_of g b c) (es : s ≡ step_at g (decode g t).overflow b) where
    pub blocks_on_lem : slots_from g n (decode g t).overflow b ≡ slots_in g t r ++ slots_after g k (decode g t).overflow s
    unfolding run_of
    blocks_on_lem =
        slots_on g (decode g t).overflow n k b h l
        ∙ ap₂ (λ (xs : List ℕ) (x : Step). xs ++ slots_after g k (decode g t).overflow x)
        (sym (ap (slots_in g t) (er ∙ ap (run_of g b) ec) ∙ overflow_slots_in g t T b (min (overflow_at (decode g t).overflow b).counter g.sio) l))
        (sym es)

    -- an entry that is looked for
    pub held_here : (e : ℕ) → position g e (slots_in g t r) < r.count → has_entry g e (slots_from g n (decode g t).overflow b) ≡ true
    held_here e p =
        ap (has_entry g e) blocks_on_lem
        ∙ held_left g e (slots_in g t r) (slots_after g k (decode g t).overflow s)
        (held_position g e (slots_in g t r) ∙ lt-ltb (position g e (slots_in g t r)) (length (slots_in g t r)) (omega (arith, slots_length g t r)))

    pub held_on : (e : ℕ) → r.count ≤ position g e (slots_in g t r)
        → has_entry g e (slots_from g n (decode g t).overflow b) ≡ has_entry g e (slots_after g k (decode g t).overflow s)
    held_on e p =
        ap (has_entry g e) blocks_on_lem
        ∙ held_right g e (slots_in g t r) (slots_after g k (decode g t).overflow s)
        (held_position g e (slots_in g t r) ∙ le-ltb (position g e (slots_in g t r)) (length (slots_in g t r)) (omega (arith, slots_length g t r)))

  -- slots, and what follows them
  pub apart_run : (r : Slots) (ys : List ℕ)
      → (every_below r.count (alone g (slots_in g t r) ys) && no_entry_twice g ys) ≡ no_entry_twice g (slots_in g t r ++ ys)
  apart_run r ys =
      ap (λ (n : ℕ). every_below n (alone g (slots_in g t r) ys) && no_entry_twice g ys) (sym (slots_length g t r))
      ∙ apart_both g ys (slots_in g t r)

  pub apart_on : (n k b c : ℕ) (r : Slots) (s : Step) → n ≡ suc k → b < g.nob → c ≡ (overflow_at (decode g t).overflow b).counter → r ≡ run_of g b c
      → s ≡ step_at g (decode g t).overflow b
      → (every_below r.count (alone g (slots_in g t r) (slots_after g k (decode g t).overflow s)) && no_entry_twice g (slots_after g k (decode g t).overflow s))
      ≡ no_entry_twice g (slots_from g n (decode g t).overflow b)
  apart_on n k b c r s h l ec er es =
      apart_run r (slots_after g k (decode g t).overflow s) ∙ ap (no_entry_twice g) (sym (blocks_on_lem n k b c r s h l ec er es))

-- ---- the slots of a basic block

module _ (g : Layout) (t : List ℕ) (T : Table g t) (i : ℕ) (il : i < g.lists) where
  -- a list without overflow blocks: its unused slots, and its entries
  pub short_as : (at n : ℕ) (r : Slots) → at ≡ basic_slots g i → n ≡ (basic_at (decode g t).basic i).counter → n ≤ g.sib
      → r ≡ basic_run g i n
      → (eqb (field t (at + n * g.slot) ((g.sib - n) * g.slot)) 0 && every_below r.count (alone g (slots_in g t r) (slots_after g 0 (decode g t).overflow Last)))
      ≡ short_sound g (basic_at (decode g t).basic i)
  unfolding short_sound slots_after
  short_as at n r a c l e =
      let b : Basic = basic_at (decode g t).basic i in
      let os : List Overflow = (decode g t).overflow in
      let z : slots_in g t r ≡ take b.counter (own_slots g b) =
      ap (slots_in g t) e
      ∙ basic_slots_in g t T i n il l
      ∙ ap (λ (x : ℕ). take x (own_slots g b)) c in
      ap₂ ◌&&◌
      (ap (λ (x : ℕ). eqb (field t (x + n * g.slot) ((g.sib - n) * g.slot)) 0) a
      ∙ sym (basic_zeros g t T i n il)
      ∙ ap (λ (x : ℕ). all_zero (drop x (own_slots g b))) c)
      (sym (and-true (every_below r.count (alone g (slots_in g t r) [])))
      ∙ apart_run g t T r []
      ∙ ap (no_entry_twice g) (append-nil (slots_in g t r) ∙ z))

  -- the entries of a list that overflows and has no damage
  pub long_as : (h l d : ℕ) (r : Slots) → h ≡ (basic_at (decode g t).basic i).head → l ≡ last_from g i g.nob (decode g t).overflow h → l < g.nob
      → d ≡ (overflow_at (decode g t).overflow l).link → r ≡ displaced_run g i d
      → (every_below r.count (alone g (slots_in g t r) (slots_after g g.nob (decode g t).overflow (further h))) && no_entry_twice g (slots_from g g.nob (decode g t).overflow h))
      ≡ long_apart g (decode g t).overflow i (basic_at (decode g t).basic i)
  unfolding long_apart slots_after
  long_as h l d r a b k q e =
      let v : Basic = basic_at (decode g t).basic i in
      let os : List Overflow = (decode g t).overflow in
      let m : last_from g i g.nob os v.head ≡ l = ap (last_from g i g.nob os) (sym a) ∙ sym b in
      let z : slots_in g t r ≡ unpack g (overflow_at os l).link v.rest =
      ap (slots_in g t) (e ∙ ap (displaced_run g i) q) ∙ displaced_slots_in g t T i (overflow_at os l).link il (link_lt g t T l k) in
      apart_run g t T r (slots_from g g.nob os h)
      ∙ ap₂ (λ (xs : List ℕ) (x : ℕ). no_entry_twice g (xs ++ slots_from g g.nob os x)) z a
      ∙ sym (ap (long_from g os v) m ∙ rw (lt-ltb l g.nob k))

  pub long_damaged : (h l : ℕ) → h ≡ (basic_at (decode g t).basic i).head → l ≡ last_from g i g.nob (decode g t).overflow h → g.nob ≤ l
      → long_apart g (decode g t).overflow i (basic_at (decode g t).basic i) ≡ false
  unfolding long_apart
  long_damaged h l a b k =
      let v : Basic = basic_at (decode g t).basic i in
      let os : List Overflow = (decode g t).overflow in
      let m : last_from g i g.nob os v.head ≡ l = ap (last_from g i g.nob os) (sym a) ∙ sym b in
      ap (long_from g os v) m ∙ rw (le-ltb l g.nob k)
