-- The bytes are the heading's, which computes.
use mathlib.Core.Path.{ap}
use mathlib.Core.List.{List, ◌++◌}
use Prim.Native.Nat.{ℕ}
use lib.ListN.{drop}
use Rattle.text_write.specs.Ascii.{ascii}
use Rattle.text_sheet.specs.Row.{left_in, right_in, row, heading}
use Rattle.text_sheet.proofs.row.put_heading.Goals as goal

pub returns : goal.returns
unfolding ascii left_in right_in row heading
returns c = ap (λ (x : List ℕ). x ++ drop 51 c.args.line.now) c.copy_from_slice.ensures.after
