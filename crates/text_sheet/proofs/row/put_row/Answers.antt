-- Address, spaces and label make a row: `row_filled`.
use mathlib.Core.Path.{◌∙◌}
use native.Mathlib.Omega.{arith}
use lib.ListN.{length-set}
use Rattle.text_write.specs.Decimal.{decimal_text}
use Rattle.text_write.specs.Writing.{written}
use Rattle.text_write.specs.theory.Decimal.{decimal_short}
use Rattle.text_write.specs.theory.Lengths.{written_length}
use Rattle.text_sheet.proofs.Fills.{row_filled}
use Rattle.text_sheet.proofs.row.put_row.Goals as goal

pub put_right-requires : goal.put_right-requires
put_right-requires c =
    (omega (arith, decimal_short c.args.label (omega arith)), omega (arith, c.put_spaces.auto.line, c.put_text-n.auto.text))

pub shape_of-line : goal.shape_of-line
shape_of-line c =
    simp length-set (c.put_right.auto.line ∙ c.put_spaces.auto.line ∙ c.put_text-n.auto.text)

pub returns : goal.returns
returns c =
    let a = c.args in
    row_filled (written a.key.high a.key.low) (decimal_text a.label) a.line.now
    (written_length a.key.high a.key.low)
    (decimal_short a.label (omega arith))
    c.requires
    c.put_text-n.ensures
    c.put_text-n.auto.text
    c.put_spaces.ensures
    c.put_right.ensures
    (omega arith)
    (omega arith)
    (omega arith)
