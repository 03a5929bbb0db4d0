-- Clauses 6.3 and 6.4: an entry in a list's slots, and find.
use Rattle.std.specs.Prelude.{ℕ, suc, Bool, cond, List, [], ◌∷◌, length, get_or, eqb, ltb, Err}
use Rattle.std.proofs.Math.Option.{Option, none, some}
use Rattle.settings.specs.declared.layout.Layout.{Layout}
use Rattle.settings.specs.declared.refusal.Refusal.TheVariants as refusal
use Rattle.table.specs.State.{State, entry_of, label_of}
use Rattle.table.specs.Follow.{Content, content}
use Rattle.table.specs.Numbers.{slot_number}
use Rattle.table.specs.Answer.{said, Answer}
use Rattle.table.specs.declared.answers.Word.TheVariants as word

module _ (g : Layout) where
  -- where the entry e stands first, from 0; the list's length if it does not (clause 6.3)
  unfoldable pub position : ℕ → List ℕ → ℕ
  position e [] = 0
  position e (x ∷ xs) = cond (eqb (entry_of g x) e) 0 (suc (position e xs))

  abbrev pub is_held : ℕ → List ℕ → Bool
  is_held e es = ltb (position e es) (length es)

  -- the label of the entry e
  abbrev pub label_at : ℕ → List ℕ → ℕ
  label_at e es = label_of g (get_or es (position e es) 0)

  -- clause 6.3: entries up to and including the match, or all of the list
  abbrev pub compared_in : ℕ → List ℕ → ℕ
  compared_in e es = cond (is_held e es) (suc (position e es)) (length es)

  -- clause 6.17: the number of the slot in which the entry e stands first, in list i
  abbrev pub number_at : ℕ → ℕ → Content → ℕ
  number_at i e v = slot_number g i v.blocks (position e v.slots)

  -- clause 6.4
  unfoldable pub find_followed : ℕ → ℕ → Option Content → Answer
  find_followed i e none = Err refusal.Damage
  find_followed i e (some v) =
      let es = v.slots in
      cond (is_held e es) (said word.Held (label_at e es) (compared_in e es) (number_at i e v)) (said word.None 0 (compared_in e es) 0)

  -- find of the entry e in list i
  unfoldable pub find_in : State → ℕ → ℕ → Answer
  find_in st i e = find_followed i e (content g st i)
