-- "held", or one of the others.
use mathlib.Core.Path.{sym, ap}
use Rattle.text_write.specs.Ascii.{ascii}
use Rattle.program_answers.specs.Answer.{word_text}
use Rattle.program_answers.proofs.Puts.{put_as}
use Rattle.program_answers.proofs.answer.put_word.Goals as goal
use Rattle.program_answers.proofs.answer.put_word.Goals.{Start}

pub returns-in-Held : goal.returns-in-Held
unfolding word_text ascii
returns-in-Held c =
    put_as (sym (ap word_text c.in-Held.is)) c.put.ensures
