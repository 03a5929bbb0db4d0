-- How a change of the table ends, and what the call answers then.
use Rattle.std.specs.Prelude.{List, ℕ, Err}
use Rattle.std.proofs.Math.Option.{Option, none, some}
use Rattle.settings.specs.declared.refusal.Refusal.TheVariants as refusal
use Rattle.settings.specs.declared.layout.Layout.{Layout}
use Rattle.settings.specs.Reply.{Reply, reply}
use Rattle.table.specs.State.{State}
use Rattle.table.specs.Decode.{written}
use Rattle.table.specs.Answer.{Answer}

pub data Done : Type 0 where
  damage : Done
  no_block : Done
  done : State → Done

-- an answer, and the state after it; none if nothing is changed
pub record Answered : Type 0 where
  pub answer : Answer
  pub after : Option State

-- the answer a, nothing changed
abbrev pub unchanged : Answer → Answered
unchanged a = record { answer = a; after = none }

-- the answer a to a change, if it was done
abbrev pub answered : Answer → Done → Answered
answered a damage = unchanged (Err refusal.Damage)
answered a no_block = unchanged (Err refusal.NoBlock)
answered a (done st) = record { answer = a; after = some st }

-- the bytes t with a state in them, if it is another
abbrev pub bytes_with : Layout → List ℕ → Option State → List ℕ
bytes_with g t none = t
bytes_with g t (some st) = written g t st

-- an answer on the lent bytes t
abbrev pub replied : Layout → List ℕ → Answered → Reply Answer
replied g t a = reply a.answer (bytes_with g t a.after)
