-- The invariant: the digits behind those of v stand from i up to `end`, and all else is as it was.
use Rattle.text_sheet.proofs.Fills.{Right}
use Rattle.text_sheet.proofs.row.put_right.Given as goal

abbrev pub invariant-loop-v : goal.invariant-loop-v
invariant-loop-v l = Right l.initial.line l.end l.n l.line l.i l.v

abbrev pub decreases-loop-v : goal.decreases-loop-v
decreases-loop-v l = l.v
