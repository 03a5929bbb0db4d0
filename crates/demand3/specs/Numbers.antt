-- Demand 3, clause 8.12: how long the number of a slot is good, over the list of calls.
use Rattle.std.specs.Prelude.{◌≡◌, false, List, [], ◌∷◌, ℕ, take}
use Rattle.std.proofs.Math.Option.{some}
use Rattle.settings.specs.declared.settings.Settings.{Settings}
use Rattle.plain_set.specs.Rebuilt.{Pair}
use Rattle.plain_set.specs.Set.{key_given}
use Rattle.plain_set.specs.Numbers.{number_in, is_gone, Gives}
use Rattle.text_calls.specs.Asked.{table_call}
use Rattle.demand3.specs.Claim.{Lending, memory_after, given, set_after}
use Rattle.table.specs.Answer.{Answer}

module _ (s : Settings) where
  -- what a call on the memory t answers
  abbrev pub answer_to : List ℕ → Lending → Answer
  answer_to t c = (table_call s (take c.lent t) c.call).answer

  -- the number n is good for the key k, and it is so after each of the calls, up to the first that takes an entry out
  abbrev pub Stays : List ℕ → List Pair → ℕ → ℕ → List Lending → Type 0
  Stays t ps k n [] = Gives s t ps k n
  Stays t ps k n (c ∷ cs) =
      Gives s t ps k n × (is_gone (answer_to t c) ≡ false → Stays (memory_after s t c) (set_after s t ps c).after k n cs)

  -- each number that one of the calls answers is good for the call's key, and stays so
  abbrev pub NumbersGood : List ℕ → List Pair → List Lending → Type 0
  NumbersGood t ps [] = Unit {0}
  NumbersGood t ps (c ∷ cs) =
      ((n : ℕ) → number_in (answer_to t c) ≡ some n
      → Stays (memory_after s t c) (set_after s t ps c).after (key_given (given c.call).given) n cs)
      × NumbersGood (memory_after s t c) (set_after s t ps c).after cs
