-- Clauses 6.7 and 6.8: delete.
use Rattle.std.specs.Prelude.{ℕ, ◌-◌, Bool, false, cond, List, [], ◌∷◌, length, get_or, set, ltb, Err}
use Rattle.std.proofs.Math.Option.{Option, none, some}
use Rattle.settings.specs.declared.layout.Layout.{Layout}
use Rattle.settings.specs.declared.refusal.Refusal.TheVariants as refusal
use Rattle.table.specs.State.{Basic, Overflow, State, overflow_at, own_slots, basic_of}
use Rattle.table.specs.Updates.{with_counter, with_front, with_slot, with_basic_front, over_basic, over_overflow}
use Rattle.table.specs.Follow.{Content, last_of, content}
use Rattle.table.specs.Find.{position, is_held, label_at, compared_in}
use Rattle.table.specs.Done.{Done, damage, done, Answered, unchanged, answered}
use Rattle.table.specs.Take.{freed}
use Rattle.table.specs.Store.{store_at}
use Rattle.table.specs.declared.step.Before.{Before}
use Rattle.table.specs.declared.step.Before.TheVariants as prior
use Rattle.table.specs.Answer.{said}
use Rattle.table.specs.declared.answers.Word.TheVariants as word

-- the last slot of an overflow block off, and zeroed
abbrev pub last_slot_off : Overflow → Overflow
last_slot_off o = with_counter (o.counter - 1) (with_slot o.counter 0 o)

-- what stands before the last of the overflow blocks c and then cs, where p stands before c
abbrev pub prior_of : Before → ℕ → List ℕ → Before
prior_of p c [] = p
prior_of p c (d ∷ ds) = prior_of (prior.Block (record { 0 = c })) d ds

module _ (g : Layout) where
  -- the last slot of a basic block off, and zeroed
  abbrev pub basic_slot_off : Basic → Basic
  basic_slot_off b = basic_of g (b.counter - 1) (set (own_slots g b) (b.counter - 1) 0)

  -- the displaced bits, the link of the last block l, handed to the overflow block before it, which is the last now, or back to basic block i
  unfoldable pub handed_back : ℕ → ℕ → Before → State → State
  handed_back i l prior.Basic st = over_basic i (with_basic_front g.sib (overflow_at st.overflow l).link) st
  handed_back i l (prior.Block p) st = over_overflow p.0 (with_front (g.sio - 1) (overflow_at st.overflow l).link) st

  -- the last slot of list i off, where l is its last block, with p before it; l is freed if that was its only slot
  unfoldable pub shrink_at : ℕ → ℕ → Before → State → State
  shrink_at i l p st =
      cond (ltb 0 (overflow_at st.overflow l).counter) (over_overflow l last_slot_off st) (freed g l (handed_back i l p st))

  -- a last block with the counter n would be freed, and cannot (clause 5.4)
  unfoldable pub cannot_free : ℕ → State → Bool
  cannot_free n st = cond (ltb 0 n) false (ltb g.nob st.free)

  -- the last slot off list i, whose overflow blocks are bs
  unfoldable pub shrink : State → ℕ → List ℕ → Done
  shrink st i [] = done (over_basic i basic_slot_off st)
  shrink st i (c ∷ cs) =
      let l = last_of c cs in
      cond (cannot_free (overflow_at st.overflow l).counter st) damage (done (shrink_at i l (prior_of prior.Basic c cs) st))

  -- the slot in place p out of list i: the list's last takes its place
  abbrev pub take_out : State → ℕ → Content → ℕ → Done
  take_out st i v p =
      let es = v.slots in
      shrink (store_at g st i v.blocks p (get_or es (length es - 1) 0)) i v.blocks

  unfoldable pub delete_followed : State → ℕ → ℕ → Option Content → Answered
  delete_followed st i e none = unchanged (Err refusal.Damage)
  delete_followed st i e (some v) =
      let es = v.slots in
      cond (is_held g e es) (answered (said word.Gone (label_at g e es) (compared_in g e es) 0) (take_out st i v (position g e es)))
      (unchanged (said word.None 0 (compared_in g e es) 0))

  -- delete of the entry e from list i
  unfoldable pub delete_in : State → ℕ → ℕ → Answered
  delete_in st i e = delete_followed st i e (content g st i)
