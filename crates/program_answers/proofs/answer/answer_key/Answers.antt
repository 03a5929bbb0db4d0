-- The answer is written, whichever it is.
use mathlib.Core.Path.{ap}
use Rattle.program_answers.specs.Answer.{answer_text}
use Rattle.program_answers.proofs.Puts.{answered_given}
use Rattle.program_answers.proofs.answer.answer_key.Goals as goal

pub returns-in-Ok : goal.returns-in-Ok
unfolding answer_text
returns-in-Ok c =
    let k = c.args.key in
    answered_given k c.apply.ensures (ap (answer_text k) c.in-Ok.is) c.say.ensures

pub returns-in-Err : goal.returns-in-Err
unfolding answer_text
returns-in-Err c =
    let k = c.args.key in
    answered_given k c.apply.ensures (ap (answer_text k) c.in-Err.is) c.refuse.ensures.0
