-- The leading zeros give the length in bits, and that the digits.
use native.Mathlib.Omega.{arith}
use Rattle.text_write.specs.theory.Digits.{count_is}
use Rattle.text_write.proofs.writer.digit_count.Goals as goal

pub returns : goal.returns
returns c = rw c.from.ensures (count_is c.args.group (omega arith))
