-- One, two or three digits are put without a call; more of them one by one.
use mathlib.Core.Path.{sym}
use native.Mathlib.Omega.{arith}
use Rattle.text_write.specs.theory.Decimal.{decimal_one, decimal_two, decimal_three, decimal_short}
use Rattle.program_answers.proofs.Puts.{put_then, put_as}
use Rattle.program_answers.proofs.text.put_decimal.Goals as goal

pub returns-then-n-lt10 : goal.returns-then-n-lt10
returns-then-n-lt10 c =
    put_as (sym (decimal_one c.args.n c.if-n-lt10.true)) c.put_digit.ensures

pub returns-then-n-lt100 : goal.returns-then-n-lt100
returns-then-n-lt100 c =
    put_as (sym (decimal_two c.args.n c.if-n-lt10.false c.if-n-lt100.true)) (put_then c.put_digit-k.ensures c.put_digit-then-n-lt100.ensures)

pub returns-then-n-lt1000 : goal.returns-then-n-lt1000
returns-then-n-lt1000 c =
    put_as (sym (decimal_three c.args.n c.if-n-lt100.false c.if-n-lt1000.true))
    (put_then (put_then c.put_digit-k-then-n-lt1000.ensures c.put_digit-j.ensures) c.put_digit-then-n-lt1000.ensures)

pub put_digits-requires : goal.put_digits-requires
put_digits-requires c = omega (arith, decimal_short c.args.n (omega arith))
