-- One digit, and one more from 10 and from 100 on: `count_is`.
use native.Mathlib.Omega.{arith}
use Rattle.text_write.proofs.Decimals.{count_is}
use Rattle.text_write.proofs.mapped.decimal_end.Goals as goal

pub returns : goal.returns
returns c =
    omega (arith, count_is c.args.byte c.requires.1, c.from.ensures, c.from-2.ensures)
