-- "gone" or "relabelled": byte strings, told apart by one test.
use mathlib.Core.Path.{sym, ap}
use Rattle.text_write.specs.Ascii.{ascii}
use Rattle.program_answers.specs.Answer.{word_text}
use Rattle.program_answers.proofs.Texts.{relabelled_text}
use Rattle.program_answers.proofs.Puts.{put_as}
use Rattle.program_answers.proofs.answer.put_unadded.Goals as goal

pub returns-in-Gone : goal.returns-in-Gone
unfolding word_text ascii
returns-in-Gone c =
    put_as (sym (ap word_text c.in-Gone.is)) c.put.ensures

pub returns-in_default : goal.returns-in_default
unfolding ascii
returns-in_default c =
    put_as
    (sym
    (relabelled_text c.args.w c.requires.0 c.requires.1
    c.in_default.not-Gone))
    c.put-in_default.ensures
