-- Demand 3, clause 8.9: one claim over the list of calls, whatever its length.
use Rattle.std.specs.Prelude.{◌≡◌, List, [], ◌∷◌, ◌++◌, ℕ, length, take, drop, Err, Ok}
use Rattle.std.proofs.Math.Option.{Option, none, some}
use Rattle.settings.specs.declared.settings.Settings.{Settings}
use Rattle.keys.specs.Key.{key_number}
use Rattle.plain_set.specs.Rebuilt.{Pair}
use Rattle.plain_set.specs.Set.{Call, call, Step, set_step}
use Rattle.plain_set.specs.Set as set
use Rattle.plain_set.specs.Holds.{Holds}
use Rattle.plain_set.specs.Plain.{plain}
use Rattle.text_read.specs.Answers.{reading_of}
use Rattle.text_calls.specs.Asked.{Asked, by_key, by_text, table_call}
use Rattle.std.specs.declared.result.Result.{Result}
use Rattle.settings.specs.declared.refusal.Refusal.{Refusal}
use Rattle.keys.specs.declared.Key.{Key}

-- a call, and how many of the table's bytes it is lent
pub record Lending : Type 0 where
  pub call : Asked
  pub lent : ℕ

-- the memory after a call that was lent its first bytes
abbrev pub memory_after : Settings → List ℕ → Lending → List ℕ
memory_after s t c = (table_call s (take c.lent t) c.call).bytes ++ drop c.lent t

-- What the set is given (clause 8.1): a text as the key that is read from it, or as not legal ------------------------------

abbrev pub as_read : Result Key Refusal → Option ℕ
as_read (Ok k) = some (key_number k)
as_read (Err why) = none

abbrev pub given : Asked → Call
given (by_key v k) = call v (set.key (key_number k))
given (by_text v x) = call v (set.text (as_read (reading_of x)))

-- The claim ------------------------------------------------------------------------------------------------------------------

module _ (s : Settings) where
  -- the step of the set for a call on the memory t
  abbrev pub set_after : List ℕ → List Pair → Lending → Step
  set_after t ps c = set_step s (length (take c.lent t)) ps (given c.call)

  -- at the start and after each call the pairs are the set, and each answer is the set's
  abbrev pub Behaves : List ℕ → List Pair → List Lending → Type 0
  Behaves t ps [] = Holds s t ps
  Behaves t ps (c ∷ cs) =
      Holds s t ps
      × (plain (table_call s (take c.lent t) c.call).answer ≡ (set_after t ps c).answer)
      × Behaves (memory_after s t c) (set_after t ps c).after cs
