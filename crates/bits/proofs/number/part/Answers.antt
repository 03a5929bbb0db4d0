-- Two shifts cut the bits out (`cut`).
use native.Mathlib.Omega.{arith}
use Rattle.bits.specs.theory.Numbers.{cut}
use Rattle.bits.proofs.number.part.Goals as goal

pub returns : goal.returns
returns c = cut c.args.x c.args.k c.args.m (omega arith)
