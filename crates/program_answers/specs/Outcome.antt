-- What a command comes to: the library's call with the text of its address.
use Rattle.std.specs.Prelude.{ℕ, List}
use Rattle.settings.specs.Reply.{Reply}
use Rattle.table.specs.Calls.{Verb, find, enter, relabel, delete}
use Rattle.text_calls.specs.TextCalls.{text_call}
use Rattle.text_calls.specs.declared.calls.TextAnswer.{TextAnswer}
use Rattle.program_commands.specs.Command.{Command}
use Rattle.program_commands.specs.declared.command.Op.{Op}
use Rattle.program_commands.specs.declared.command.Op.TheVariants as op
use Rattle.program_answers.specs.Program.{program}

abbrev pub verb_of : Op → ℕ → Verb
verb_of op.Enter label = enter label
verb_of op.Relabel label = relabel label
verb_of op.Delete label = delete
verb_of op.Find label = find

-- the command c on the table t
unfoldable pub command_call : List ℕ → Command → Reply TextAnswer
command_call t c = text_call program t (verb_of c.op c.label) c.address
