-- "added", or one of the others.
use mathlib.Core.Path.{sym, ap}
use Rattle.text_write.specs.Ascii.{ascii}
use Rattle.program_answers.specs.Answer.{word_text}
use Rattle.program_answers.proofs.Puts.{put_as}
use Rattle.program_answers.proofs.answer.put_change.Goals as goal
use Rattle.program_answers.proofs.answer.put_change.Goals.{Start}

pub returns-in-Added : goal.returns-in-Added
unfolding word_text ascii
returns-in-Added c =
    put_as (sym (ap word_text c.in-Added.is)) c.put.ensures
