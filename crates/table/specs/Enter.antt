-- Clauses 6.5 and 6.6: enter.
use Rattle.std.specs.Prelude.{ℕ, suc, cond, List, [], ◌∷◌, ◌++◌, length, set, ltb, Err}
use Rattle.std.proofs.Math.Option.{Option, none, some}
use Rattle.settings.specs.declared.layout.Layout.{Layout}
use Rattle.settings.specs.declared.refusal.Refusal.TheVariants as refusal
use Rattle.table.specs.State.{Basic, Overflow, State, basic_at, overflow_at, own_slots, basic_of, slot_of}
use Rattle.table.specs.Updates.{with_counter, with_front, with_slot, with_basic_front, over_basic, over_overflow}
use Rattle.table.specs.Follow.{Content, last_of, content}
use Rattle.table.specs.Numbers.{slot_number}
use Rattle.table.specs.Find.{is_held, compared_in}
use Rattle.table.specs.Done.{Done, done, Answered, unchanged, answered}
use Rattle.table.specs.Take.{next_free, taking, taken}
use Rattle.table.specs.Answer.{said}
use Rattle.table.specs.declared.answers.Word.TheVariants as word

-- the slot x more in an overflow block: its counter is one less than its entries
abbrev pub one_more : ℕ → Overflow → Overflow
one_more x o = with_counter (suc o.counter) (with_slot (suc o.counter) x o)

module _ (g : Layout) where
  -- the slot x more in a basic block
  abbrev pub basic_more : ℕ → Basic → Basic
  basic_more x b = basic_of g (suc b.counter) (set (own_slots g b) b.counter x)

  -- the slot x in the first free block, to which the last one of list i now links. The displaced bits d move there
  abbrev pub extended : State → ℕ → List ℕ → ℕ → ℕ → (ℕ → State → State) → Done
  extended st i bs d x linkTo =
      let f = st.free in
      taking g st bs (done (taken g i f (next_free g st.overflow f) d x (linkTo f st)))

  -- the slot x at the end of list i, whose overflow blocks are bs
  unfoldable pub append : State → ℕ → List ℕ → ℕ → Done
  append st i [] x =
      let b = basic_at st.basic i in
      cond (ltb b.counter g.sib) (done (over_basic i (basic_more x) st))
      (extended st i [] b.head x (λ f. over_basic i (with_basic_front (suc g.sib) f)))
  append st i (c ∷ cs) x =
      let l = last_of c cs in
      let o = overflow_at st.overflow l in
      cond (ltb (suc o.counter) g.sio) (done (over_overflow l (one_more x) st))
      (extended st i (c ∷ cs) o.link x (λ f. over_overflow l (with_front g.sio f)))

  -- clause 6.17: the number of the place at the list's end, in the list's own blocks or in the first free one behind them
  abbrev pub end_number : State → ℕ → Content → ℕ
  end_number st i v = slot_number g i (v.blocks ++ st.free ∷ []) (length v.slots)

  -- an entry that is held is refused before the free chain is looked at
  unfoldable pub enter_followed : State → ℕ → ℕ → ℕ → Option Content → Answered
  enter_followed st i e label none = unchanged (Err refusal.Damage)
  enter_followed st i e label (some v) =
      cond (is_held g e v.slots) (unchanged (Err refusal.Known))
      (answered (said word.Added label (compared_in g e v.slots) (end_number st i v)) (append st i v.blocks (slot_of g e label)))

  -- enter of the entry e with a label in list i
  unfoldable pub enter_in : State → ℕ → ℕ → ℕ → Answered
  enter_in st i e label = enter_followed st i e label (content g st i)
