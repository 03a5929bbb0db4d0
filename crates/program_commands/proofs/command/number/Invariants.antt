-- The bytes before the place are digits, and `n` is their number.
use Rattle.program_commands.proofs.Labels.{Read}
use Rattle.program_commands.proofs.command.number.Given as goal

abbrev pub invariant-loop-b : goal.invariant-loop-b
invariant-loop-b l = Read l.text l.b-index l.n
