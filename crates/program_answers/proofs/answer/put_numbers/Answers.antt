-- Each number has at most ten digits.
use native.Mathlib.Omega.{arith}
use Rattle.program_answers.specs.Answer.{numbers_text}
use Rattle.text_write.specs.theory.Decimal.{decimal_short}
use Rattle.program_answers.proofs.Puts.{put_then}
use Rattle.program_answers.proofs.answer.put_numbers.Goals as goal

pub put-m-requires : goal.put-m-requires
put-m-requires c =
    omega (arith, c.put_decimal-n.ensures.end, decimal_short c.args.label (omega arith))

pub put_decimal-k-requires : goal.put_decimal-k-requires
put_decimal-k-requires c =
    omega (arith, c.put_decimal-n.ensures.end, c.put-m.ensures.end, decimal_short c.args.label (omega arith))

pub put-requires : goal.put-requires
put-requires c =
    let a = c.args in
    omega (arith, c.put_decimal-n.ensures.end, c.put-m.ensures.end, c.put_decimal-k.ensures.end, decimal_short a.label (omega arith), decimal_short a.compared (omega arith))

pub returns : goal.returns
unfolding numbers_text
returns c =
    put_then (put_then c.put_decimal-n.ensures (put_then c.put-m.ensures c.put_decimal-k.ensures)) c.put.ensures
