-- Section 8 of docs/SPECIFICATION.md: the plain set. It is given the settings and each call's arguments, the lent table's length, a text as the key
-- that is read from it or as not legal, and nothing of the answers.
use Rattle.std.specs.Prelude.{ℕ, suc, ◌+◌, ◌-◌, ◌/◌, Bool, true, cond, ◌&&◌, List, [], ◌∷◌, ◌++◌, eqb}
use Rattle.std.proofs.Math.Option.{Option, none, some}
use Rattle.laws.specs.Folds.{count, sum_below}
use Rattle.settings.specs.declared.settings.Settings.{Settings}
use Rattle.settings.specs.declared.refusal.Refusal.{Refusal}
use Rattle.settings.specs.declared.refusal.Refusal.TheVariants as refusal
use Rattle.settings.specs.Sizes.{lists}
use Rattle.settings.specs.Due.{Due, due, unless_due, settings_due, short_due, width_due, key_due}
use Rattle.keys.specs.Key.{list_number}
use Rattle.plain_set.specs.Rebuilt.{Pair, pair}
use Rattle.table.specs.Calls.{Verb, find, enter, relabel, delete, verb_due}
use Rattle.table.specs.declared.answers.Word.{Word}
use Rattle.table.specs.declared.answers.Word.TheVariants as word

-- Calls and answers ------------------------------------------------------------------------------------------------------

pub data Given : Type 0 where
  key : ℕ → Given
  text : Option ℕ → Given

-- the key; a text that is not legal has none, and is refused
abbrev pub key_given : Given → ℕ
key_given (key k) = k
key_given (text none) = 0
key_given (text (some k)) = k

pub record Call : Type 0 where
  pub verb : Verb
  pub given : Given

abbrev pub call : Verb → Given → Call
call v g = record { verb = v; given = g }

pub data Answer : Type 0 where
  said : Word → ℕ → Answer
  refused : Refusal → Answer

-- Sets of pairs, no key twice --------------------------------------------------------------------------------------------

abbrev pub has_key : ℕ → Pair → Bool
has_key k p = eqb p.key k

abbrev pub lookup : ℕ → List Pair → Option ℕ
lookup k [] = none
lookup k (p ∷ ps) = cond (has_key k p) (some p.label) (lookup k ps)

abbrev pub erase : ℕ → List Pair → List Pair
erase k [] = []
erase k (p ∷ ps) = cond (has_key k p) ps (p ∷ erase k ps)

abbrev pub relabel_pair : ℕ → ℕ → List Pair → List Pair
relabel_pair k l [] = []
relabel_pair k l (p ∷ ps) = cond (has_key k p) (pair k l ∷ ps) (p ∷ relabel_pair k l ps)

pub record Step : Type 0 where
  pub answer : Answer
  pub after : List Pair

abbrev pub step : Answer → List Pair → Step
step a ps = record { answer = a; after = ps }

module _ (s : Settings) where
  -- The length rule -------------------------------------------------------------------------------------------------------

  -- clause 8.8: the overflow blocks of a list of length n, (n - sib) / sio rounded up
  unfoldable pub blocks_used : ℕ → ℕ
  blocks_used n = (n - s.sib + (s.sio - 1)) / s.sio

  -- clause 8.8: how many keys of the set have this list's number
  abbrev pub list_length : List Pair → ℕ → ℕ
  list_length ps i = count (λ p. eqb (list_number s p.key) i) ps

  -- clause 8.8: one entry more would use one block more
  abbrev pub no_vacant_slot : ℕ → Bool
  no_vacant_slot n = eqb (blocks_used (suc n)) (suc (blocks_used n))

  -- the blocks of all lists together
  abbrev pub blocks_needed : List Pair → ℕ
  blocks_needed ps = sum_below (lists s) (λ i. blocks_used (list_length ps i))

  -- clause 8.7: all lists together use nob blocks
  abbrev pub all_blocks_used : List Pair → Bool
  all_blocks_used ps = eqb (blocks_needed ps) s.nob

  -- The steps: clauses 8.3 to 8.7 and 8.11 ----------------------------------------------------------------------------------------

  abbrev pub find_step : List Pair → Option ℕ → Step
  find_step ps none = step (said word.None 0) ps
  find_step ps (some l) = step (said word.Held l) ps

  abbrev pub delete_step : List Pair → ℕ → Option ℕ → Step
  delete_step ps k none = step (said word.None 0) ps
  delete_step ps k (some l) = step (said word.Gone l) (erase k ps)

  abbrev pub enter_step : List Pair → ℕ → ℕ → Option ℕ → Step
  enter_step ps k l none =
      cond (no_vacant_slot (list_length ps (list_number s k)) && all_blocks_used ps)
      (step (refused refusal.NoBlock) ps) (step (said word.Added l) (pair k l ∷ ps))
  enter_step ps k l (some m) = step (refused refusal.Known) ps

  -- the new label in the pair, the old one in the answer
  abbrev pub relabel_step : List Pair → ℕ → ℕ → Option ℕ → Step
  relabel_step ps k l none = step (said word.None 0) ps
  relabel_step ps k l (some m) = step (said word.Relabelled m) (relabel_pair k l ps)

  -- the call with a legal key
  abbrev pub key_step : List Pair → Verb → ℕ → Step
  key_step ps find k = find_step ps (lookup k ps)
  key_step ps (enter l) k = enter_step ps k l (lookup k ps)
  key_step ps (relabel l) k = relabel_step ps k l (lookup k ps)
  key_step ps delete k = delete_step ps k (lookup k ps)

  -- the refusals for what is given; a text that is not legal is 4
  abbrev pub given_due : Given → List Due
  given_due (key k) = key_due s k ∷ []
  given_due (text none) = width_due s ∷ due true refusal.Text ∷ []
  given_due (text (some k)) = width_due s ∷ key_due s k ∷ []

  -- all refusals for inputs, in their order, where the lent table has n bytes
  abbrev pub call_due : ℕ → Call → List Due
  call_due n c = settings_due s ∷ short_due s n ∷ given_due c.given ++ verb_due s c.verb

  -- the call, where the lent table has n bytes
  unfoldable pub set_step : ℕ → List Pair → Call → Step
  set_step n ps c = unless_due (call_due n c) (λ why. step (refused why) ps) (key_step ps c.verb (key_given c.given))
