-- The first part decides, and the groups behind a gap.
use mathlib.Core.Path.{◌≡◌, sym, ap, ◌∙◌}
use Rattle.std.proofs.Common.{Some}
use Rattle.text_read.specs.Answers.{reading_of}
use Rattle.text_read.specs.ReaderSteps.{head_answer}
use Rattle.text_read.proofs.Parts.{behind_answer, after_behind}
use Rattle.text_read.proofs.reader.read.Goals as goal
use Rattle.text_read.proofs.reader.read.Goals.{After-behind_gap}

behind : (c : After-behind_gap) → reading_of c.args.text.now ≡ behind_answer c.in-Gap.groups.number c.in-Gap.groups.count c.behind_gap.result
behind c =
    c.first_part.ensures.0
    ∙ ap (head_answer c.args.text.now) (c.in-Some.is ∙ ap Some c.in-Gap.is)
    ∙ after_behind _ _ _
    ∙ ap (behind_answer c.in-Gap.groups.number c.in-Gap.groups.count) (sym c.behind_gap.ensures)

pub returns-in_default-behind_gap : goal.returns-in_default-behind_gap
returns-in_default-behind_gap c =
    sym (behind (goal.at.returns-in_default-behind_gap c).After-behind_gap ∙ ap (behind_answer _ _) c.in_default-behind_gap.is)

pub returns-in-Some-behind_gap : goal.returns-in-Some-behind_gap
returns-in-Some-behind_gap c =
    c.filled.ensures ∙ sym (behind (goal.at.returns-in-Some-behind_gap c).After-behind_gap ∙ ap (behind_answer _ _) c.in-Some-behind_gap.is)
