-- A refusal has a number of at most ten digits.
use mathlib.Core.Path.{ap}
use mathlib.Core.List.{[], ◌∷◌, ◌++◌}
use Prim.Native.Nat.{ℕ}
use native.Mathlib.Omega.{arith}
use Rattle.text_write.specs.Ascii.{ascii}
use Rattle.program_answers.specs.Answer.{refused_text}
use Rattle.text_write.specs.Decimal.{decimal_text}
use Rattle.text_write.specs.theory.Decimal.{decimal_short}
use Rattle.program_answers.proofs.Puts.{put_then, put_as, put_wrote}
use Rattle.program_answers.proofs.answer.refuse.Goals as goal

pub put-requires : goal.put-requires
put-requires c =
    omega (arith, c.put-n.ensures.end, c.put_decimal-m.ensures.end, decimal_short c.number.result (omega arith))

pub returns : goal.returns
unfolding refused_text ascii
returns c =
    let whole =
    put_as (ap (λ (m : ℕ). ascii "refused " ++ decimal_text m ++ 10 ∷ []) c.number.ensures)
    (put_then (put_then c.put-n.ensures c.put_decimal-m.ensures) c.put.ensures) in
    (put_wrote whole (omega (arith, whole.end, c.put-n.ensures.end, c.put_decimal-m.ensures.end, c.put.ensures.end, decimal_short c.number.result (omega arith))), whole.rest)
