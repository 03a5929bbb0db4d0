-- Sections 6 and 7 of docs/SPECIFICATION.md: what each call answers and leaves in the lent bytes, for any settings, key, label, number and bytes. A
-- call's refusals stand in their order (clause 7.3).
use Rattle.std.specs.Prelude.{ℕ, cond, not, List, [], ◌∷◌, length, leb, ltb, Bool, Err, Ok, false, true, ⊤}
use Rattle.settings.specs.declared.settings.Settings.{Settings}
use Rattle.settings.specs.declared.layout.Layout.{Layout}
use Rattle.keys.specs.declared.Key.{Key}
use Rattle.settings.specs.declared.refusal.Refusal.TheVariants as refusal
use Rattle.settings.specs.Layout.{layout_of}
use Rattle.settings.specs.Due.{Due, due, unless_due, settings_due, short_due, key_due, label_due}
use Rattle.settings.specs.Reply.{Reply, reply, called}
use Rattle.keys.specs.Key.{key_number, list_number, entry}
use Rattle.table.specs.State.{State}
use Rattle.table.specs.Decode.{decode}
use Rattle.table.specs.Find.{find_in}
use Rattle.table.specs.Done.{Answered, unchanged, replied}
use Rattle.table.specs.Enter.{enter_in}
use Rattle.table.specs.Relabel.{relabel_in}
use Rattle.table.specs.Delete.{delete_in}
use Rattle.table.specs.New.{new_bytes}
use Rattle.table.specs.Record.{record_in}
use Rattle.table.specs.Numbers.{capacity}
use Rattle.table.specs.Retrieve.{retrieve_in}
use Rattle.table.specs.Check.{table_sound, mark_bytes, marks_after}
use Rattle.std.specs.declared.result.Result.{Result}
use Rattle.settings.specs.declared.refusal.Refusal.{Refusal}
use Rattle.table.specs.Answer.{RecordAnswer, Answer}

-- what is asked of a key; the number is a label
pub data Verb : Type 0 where
  find : Verb
  enter : ℕ → Verb
  relabel : ℕ → Verb
  delete : Verb

-- what it comes to on list i of a state, for the entry e
unfoldable pub list_call : Layout → State → ℕ → ℕ → Verb → Answered
list_call g st i e find = unchanged (find_in g st i e)
list_call g st i e (enter label) = enter_in g st i e label
list_call g st i e (relabel label) = relabel_in g st i e label
list_call g st i e delete = delete_in g st i e

-- the refusals for a label
abbrev pub verb_due : Settings → Verb → List Due
verb_due s find = []
verb_due s (enter label) = label_due s label ∷ []
verb_due s (relabel label) = label_due s label ∷ []
verb_due s delete = []

module _ (s : Settings) (t : List ℕ) where
  -- the state that the lent bytes hold
  abbrev pub held : State
  held = decode (layout_of s) t

  unfoldable pub make_call : Reply (Result ⊤ Refusal)
  make_call = called Err t (settings_due s ∷ short_due s (length t) ∷ []) (reply (Ok tt) (new_bytes (layout_of s) t))

  -- find, enter, relabel and delete with the key k
  unfoldable pub key_call : Verb → Key → Reply Answer
  key_call v k =
      called Err t (settings_due s ∷ short_due s (length t) ∷ key_due s (key_number k) ∷ verb_due s v)
      (replied (layout_of s) t (list_call (layout_of s) held (list_number s (key_number k)) (entry s (key_number k)) v))

  unfoldable pub record_call : ℕ → RecordAnswer
  record_call n = unless_due (settings_due s ∷ short_due s (length t) ∷ []) Err (record_in s held n)

  -- 14: a number that no slot has
  unfoldable pub retrieve_call : ℕ → RecordAnswer
  retrieve_call n =
      unless_due (settings_due s ∷ short_due s (length t) ∷ due (not (ltb n (capacity (layout_of s)))) refusal.Slot ∷ [])
      Err (retrieve_in s held n)

  -- 10: too few marks. The lent bytes that are written are the marks (clause 6.11)
  unfoldable pub check_call : List ℕ → Reply (Result Bool Refusal)
  check_call m =
      called Err m
      (settings_due s ∷ short_due s (length t) ∷ due (not (leb (mark_bytes (layout_of s)) (length m))) refusal.Marks ∷ [])
      (reply (Ok (table_sound (layout_of s) t)) (marks_after (layout_of s) m))
