-- A number is put as a tenth of it is, and one digit more.
use Rattle.std.proofs.Common.{arith, sym, ap, length}
use Rattle.text_write.specs.theory.Decimal.{decimal_one, decimal_more, decimal_longer}
use Rattle.program_answers.proofs.Puts.{put_then, put_as}
use Rattle.program_answers.proofs.text.+put_digits.Goals as goal

pub put_digit-requires : goal.put_digit-requires
put_digit-requires t c = omega (arith, ap length (decimal_one c.args.n c.if-n-lt10.true))

pub returns-then-n-lt10 : goal.returns-then-n-lt10
returns-then-n-lt10 t c = put_as (sym (decimal_one c.args.n c.if-n-lt10.true)) c.put_digit.ensures

pub put_digits-k-requires : goal.put_digits-k-requires
put_digits-k-requires t c =
    (omega (arith, c.decreases, c.if-n-lt10.false), omega (arith, decimal_longer c.args.n c.if-n-lt10.false))

pub put_digit-requires-2 : goal.put_digit-requires-2
put_digit-requires-2 t c =
    (omega arith, omega (arith, decimal_longer c.args.n c.if-n-lt10.false, c.put_digits-k.ensures.end))

pub returns : goal.returns
returns t c =
    put_as (sym (decimal_more c.args.n c.if-n-lt10.false)) (put_then c.put_digits-k.ensures c.put_digit-2.ensures)
