-- Nothing follows the gap, or one part that goes to the end.
use native.Mathlib.Omega.{arith}
use mathlib.Core.Path.{◌≡◌, sym, ap, ◌∙◌}
use mathlib.Core.Bool.{true}
use Rattle.std.specs.Prelude.{Some}
use lib.ListN.{drop}
use Rattle.text_read.specs.ReaderSteps.{gathered}
use Rattle.text_read.specs.Reading.{part}
use Rattle.text_read.proofs.Parts.{part_later, whole_of, behind_end, behind_here}
use Rattle.text_read.proofs.reader.behind_gap.Goals as goal
use Rattle.text_read.proofs.reader.behind_gap.Goals.{After-read_part}

-- the part behind the gap does not begin the text
rest : (c : After-read_part) → gathered (part true (drop c.args.at c.args.text.now)) ≡ whole_of c.read_part.result
rest c =
    let s = c.args.text.now in
    let i = c.args.at in
    behind_here s i (omega (arith, c.requires.1, c.if-at-text.false))
    ∙ ap whole_of (sym (c.read_part.ensures ∙ part_later 0 0 (drop i s) i c.requires.0))

pub returns-then-at-text : goal.returns-then-at-text
returns-then-at-text c = sym (behind_end c.args.text.now c.args.at c.if-at-text.true)

pub returns-in_err-tail : goal.returns-in_err-tail
returns-in_err-tail c =
    c.from_residual.ensures ∙ sym (rest (goal.at.returns-in_err-tail c).After-read_part ∙ ap whole_of c.in_err-tail.was)

pub returns-in-Whole : goal.returns-in-Whole
returns-in-Whole c =
    sym (rest (goal.at.returns-in-Whole c).After-read_part ∙ ap whole_of (c.in_ok-tail.was ∙ ap Some c.in-Whole.is))

pub returns-in-Gap : goal.returns-in-Gap
returns-in-Gap c =
    sym (rest (goal.at.returns-in-Gap c).After-read_part ∙ ap whole_of (c.in_ok-tail.was ∙ ap Some c.in-Gap.is))
