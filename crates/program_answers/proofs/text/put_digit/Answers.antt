-- The digit 0 is the byte 48.
use native.Mathlib.Omega.{arith}
use Rattle.program_answers.proofs.Puts.{put_byte}
use Rattle.program_answers.proofs.text.put_digit.Goals as goal

pub returns : goal.returns
returns c = put_byte _ _ _ (omega arith)
