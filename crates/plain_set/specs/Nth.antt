-- Clause 6.9, said of pairs: theory proves that it is what record answers on a table without damage.
use Rattle.std.specs.Prelude.{ℕ, zero, suc, ◌<◌, ◌≢◌, List, [], ◌∷◌, None, Ok}
use Rattle.std.proofs.Math.Option.{none}
use Rattle.settings.specs.declared.layout.Layout.{Layout}
use Rattle.keys.specs.Key.{key_of}
use Rattle.table.specs.State.{State}
use Rattle.table.specs.Follow.{content}
use Rattle.plain_set.specs.Rebuilt.{Pair}
use Rattle.table.specs.Answer.{RecordAnswer, recorded}

-- the answer that gives a pair
abbrev pub record_of_pair : Pair → RecordAnswer
record_of_pair p = recorded (key_of p.key) p.label

-- the nth of the pairs, or "none"
abbrev pub nth_record : List Pair → ℕ → RecordAnswer
nth_record [] n = Ok None
nth_record (p ∷ ps) zero = record_of_pair p
nth_record (p ∷ ps) (suc n) = nth_record ps n

-- no list is damaged
abbrev pub Undamaged : Layout → State → Type 0
Undamaged g st = (i : ℕ) → i < g.lists → content g st i ≢ none
