use native.Mathlib.Omega.{arith}
use Rattle.program_answers.specs.theory.Program.{program_bytes_lem}
use Rattle.filter.proofs.Memory.last_line.Goals as goal

pub finish-n-requires : goal.finish-n-requires
finish-n-requires c = (omega (arith, program_bytes_lem), omega arith)
