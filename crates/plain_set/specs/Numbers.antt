-- Clause 8.12: the number of a slot that a call answers, and when a number is good.
use Rattle.std.specs.Prelude.{◌≡◌, Bool, true, false, List, ℕ, Ok, Err}
use Rattle.std.proofs.Math.Option.{Option, none, some}
use Rattle.settings.specs.declared.settings.Settings.{Settings}
use Rattle.keys.specs.Key.{key_of}
use Rattle.table.specs.Calls.{retrieve_call}
use Rattle.table.specs.Answer as table
use Rattle.table.specs.declared.answers.Word.{Word}
use Rattle.table.specs.declared.answers.Word.TheVariants as word
use Rattle.plain_set.specs.Rebuilt.{Pair}
use Rattle.plain_set.specs.Set.{lookup}
use Rattle.table.specs.Answer.{recorded}

-- with a word, the number of a slot
abbrev pub number_with : Word → ℕ → Option ℕ
number_with word.Held slot = some slot
number_with word.Added slot = some slot
number_with word.Relabelled slot = some slot
number_with word.Gone slot = none
number_with word.None slot = none

-- the number that an answer has: with "held", "added" and "relabelled"
abbrev pub number_in : table.Answer → Option ℕ
number_in (Ok said) = number_with said.word said.slot
number_in (Err why) = none

abbrev pub word_gone : Word → Bool
word_gone word.Held = false
word_gone word.Added = false
word_gone word.Relabelled = false
word_gone word.Gone = true
word_gone word.None = false

-- the answer of a delete that took an entry out: numbers are good until then
abbrev pub is_gone : table.Answer → Bool
is_gone (Ok said) = word_gone said.word
is_gone (Err why) = false

-- the number n is good for the key k: on the bytes t retrieve gives the key, and the label that the set ps holds for it
pub record Gives (s : Settings) (t : List ℕ) (ps : List Pair) (k n : ℕ) : Type 0 where
  pub label : ℕ
  pub holds : lookup k ps ≡ some label
  pub gives : retrieve_call s t n ≡ recorded (key_of k) label
