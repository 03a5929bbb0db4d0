-- The text begins with "::", or its first part begins it.
use mathlib.Core.Path.{sym, ap, ◌∙◌}
use lib.Dec.{lit<}
use Rattle.text_read.specs.ReaderSteps.{head_answer}
use Rattle.text_read.proofs.Parts.{start_fine, read_open, read_plain}
use Rattle.text_read.proofs.reader.first_part.Goals as goal

pub returns-then-opens : goal.returns-then-opens
returns-then-opens c =
    let r = read_open c.args.text.now (sym c.opens.ensures ∙ c.if-opens.true) in
    (r.1, (lit< tt, r.0))

pub returns : goal.returns
returns c =
    let s = c.args.text.now in (
      read_plain s (sym c.opens.ensures ∙ c.if-opens.false) ∙ ap (head_answer s) (sym c.read_part.ensures),
      rw c.read_part.ensures (start_fine s),
    )
