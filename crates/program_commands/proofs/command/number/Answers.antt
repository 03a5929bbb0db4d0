-- The bytes before the place are digits, and `n` is their number.
use native.Mathlib.Omega.{arith}
use Rattle.program_commands.proofs.Labels.{read_more, read_other, read_end}
use Rattle.program_commands.proofs.command.number.Goals as goal

pub returns-then-not-is_ascii_digit : goal.returns-then-not-is_ascii_digit
returns-then-not-is_ascii_digit c = read_other _ _ _ c.loop-b.invariant c.loop-b-test.true (cc)

pub loop-b-preserved : goal.loop-b-preserved
loop-b-preserved c = rw c.from.ensures (read_more _ _ _ c.loop-b.invariant c.loop-b-test.true (cc))

pub returns : goal.returns
returns c = read_end c.args.text.now _ _ c.loop-b.invariant (omega arith)
