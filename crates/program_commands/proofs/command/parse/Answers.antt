-- Each return is a law of the line by the tests that led there.
use mathlib.Core.Path.{refl}
use native.Mathlib.Omega.{arith}
use Rattle.program_commands.specs.Command.{op_of}
use Rattle.program_commands.proofs.Parses.{malformed, short_line, unspaced_line, unknown_line, delete_asks, find_asks}
use Rattle.program_commands.specs.theory.Long.{long_none}
use Rattle.program_commands.proofs.command.parse.Goals as goal

pub returns-then-end-gt-LINE_MAX : goal.returns-then-end-gt-LINE_MAX
returns-then-end-gt-LINE_MAX c = malformed _ (long_none _ c.if-end-gt-LINE_MAX.true)

pub returns-in_default : goal.returns-in_default
returns-in_default c = malformed _ (short_line _ c.in_default.len_below)

pub returns-in_default-2 : goal.returns-in_default-2
returns-in_default-2 c = malformed _ (unspaced_line _ (λ e. omega arith))

pub parse_labelled-requires : goal.parse_labelled-requires
unfolding op_of
parse_labelled-requires c = record {
  byte = 43;
  begins = record { low = omega arith; high = omega arith; first = c.in-43.is; second = omega arith };
  stands = refl;
  takes = refl;
}

pub parse_labelled-requires-in-61 : goal.parse_labelled-requires-in-61
unfolding op_of
parse_labelled-requires-in-61 c = record {
  byte = 61;
  begins = record { low = omega arith; high = omega arith; first = c.in-61.is; second = omega arith };
  stands = refl;
  takes = refl;
}

pub returns-in-45 : goal.returns-in-45
returns-in-45 c = delete_asks _ (record { low = omega arith; high = omega arith; first = c.in-45.is; second = omega arith })

pub returns-in-63 : goal.returns-in-63
returns-in-63 c = find_asks _ (record { low = omega arith; high = omega arith; first = c.in-63.is; second = omega arith })

pub returns-in_default-first : goal.returns-in_default-first
returns-in_default-first c =
    malformed _
    (unknown_line _ _ (record { low = omega arith; high = omega arith; first = refl; second = omega arith }) (λ e. omega arith) (λ e. omega arith) (λ e. omega arith) (λ e. omega arith))
