-- "none", or one of the words of a change.
use mathlib.Core.Path.{sym, ap}
use Rattle.text_write.specs.Ascii.{ascii}
use Rattle.program_answers.specs.Answer.{word_text}
use Rattle.program_answers.proofs.Puts.{put_as}
use Rattle.program_answers.proofs.answer.put_unheld.Goals as goal
use Rattle.program_answers.proofs.answer.put_unheld.Goals.{Start}

pub returns-in-None : goal.returns-in-None
unfolding word_text ascii
returns-in-None c =
    put_as (sym (ap word_text c.in-None.is)) c.put.ensures
