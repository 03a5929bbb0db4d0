-- A command that was told apart.
use mathlib.Core.Path.{◌≡◌}
use mathlib.Core.List.{List}
use Prim.Native.Nat.{ℕ}
use Rattle.settings.specs.Reply.{Gives}
use Rattle.keys.specs.declared.Key.{Key}
use Rattle.table.specs.Calls.{key_call}
use Rattle.program_commands.specs.declared.command.Op.{Op}
use Rattle.program_answers.specs.Program.{program}
use Rattle.program_answers.specs.Outcome.{verb_of}
use Rattle.table.specs.Answer.{Answer}

-- its call, by its verb
pub given : (t : List ℕ) (k : Key) (label : ℕ) {o o' : Op} {u : List ℕ} {r : Answer} → o ≡ o' → Gives (key_call program t (verb_of o' label) k) r u → Gives (key_call program t (verb_of o label) k) r u
given t k label e p = rw e p
