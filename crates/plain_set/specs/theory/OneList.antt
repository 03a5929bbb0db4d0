-- One list alone: what a call with a key of that list is told of the list's slots, and the slots after it. `full` says that a block is needed and
-- none is free; nothing else of the table matters.
use Rattle.std.specs.Prelude.{Bool, cond, List, [], ◌∷◌, ◌++◌, ℕ, set, Ok, Err}
use Rattle.settings.specs.declared.settings.Settings.{Settings}
use Rattle.settings.specs.declared.refusal.Refusal.TheVariants as refusal
use Rattle.settings.specs.Layout.{layout_of}
use Rattle.keys.specs.Key.{entry}
use Rattle.table.specs.State.{slot_of}
use Rattle.table.specs.Find.{position, is_held, label_at, compared_in}
use Rattle.table.specs.Calls.{Verb, find, enter, relabel, delete}
use Rattle.table.specs.Answer as table
use Rattle.table.specs.declared.answers.Word.{Word}
use Rattle.table.specs.declared.answers.Word.TheVariants as word
use Rattle.plain_set.specs.Set.{Answer, said, refused}
use Rattle.plain_set.specs.Plain.{plain}
use Rattle.plain_set.specs.theory.Swap.{swap_out}

-- what a call is told: the plain answer, and `compared`
pub record Told : Type 0 where
  pub answer : Answer
  pub compared : ℕ

abbrev pub tell : Answer → ℕ → Told
tell a n = record { answer = a; compared = n }

-- clause 7.1: a refusal has compared 0
abbrev pub compared_of : table.Answer → ℕ
compared_of (Ok r) = r.compared
compared_of (Err why) = 0

abbrev pub told : table.Answer → Told
told a = tell (plain a) (compared_of a)

module _ (s : Settings) where
  -- is the key in the slots, where, and with which label
  abbrev pub in_row : ℕ → List ℕ → Bool
  in_row k es = is_held (layout_of s) (entry s k) es

  abbrev pub place_in : ℕ → List ℕ → ℕ
  place_in k es = position (layout_of s) (entry s k) es

  abbrev pub label_in : ℕ → List ℕ → ℕ
  label_in k es = label_at (layout_of s) (entry s k) es

  -- the slot of a key and a label
  abbrev pub slot_for : ℕ → ℕ → ℕ
  slot_for k l = slot_of (layout_of s) (entry s k) l

  -- an accepted answer
  abbrev pub accepted : Word → ℕ → ℕ → List ℕ → Told
  accepted w label k es = tell (said w label) (compared_in (layout_of s) (entry s k) es)

  unfoldable pub row_told : Verb → ℕ → List ℕ → Bool → Told
  row_told find k es full = cond (in_row k es) (accepted word.Held (label_in k es) k es) (accepted word.None 0 k es)
  row_told (enter l) k es full =
      cond (in_row k es) (tell (refused refusal.Known) 0) (cond full (tell (refused refusal.NoBlock) 0) (accepted word.Added l k es))
  row_told (relabel l) k es full = cond (in_row k es) (accepted word.Relabelled (label_in k es) k es) (accepted word.None 0 k es)
  row_told delete k es full = cond (in_row k es) (accepted word.Gone (label_in k es) k es) (accepted word.None 0 k es)

  unfoldable pub row_after : Verb → ℕ → List ℕ → Bool → List ℕ
  row_after find k es full = es
  row_after (enter l) k es full = cond (in_row k es) es (cond full es (es ++ slot_for k l ∷ []))
  row_after (relabel l) k es full = cond (in_row k es) (set es (place_in k es) (slot_for k l)) es
  row_after delete k es full = cond (in_row k es) (swap_out es (place_in k es)) es
