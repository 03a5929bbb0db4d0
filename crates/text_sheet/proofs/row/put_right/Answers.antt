-- The invariant: the digits behind those of v stand from i up to `end`, and all else is as it was.
use native.Mathlib.Omega.{arith}
use lib.ListN.{length-set}
use Rattle.text_sheet.proofs.Fills.{none_put, room, inside, one_more, all_put}
use Rattle.text_sheet.proofs.row.put_right.Goals as goal

pub loop-v-init : goal.loop-v-init
loop-v-init c = none_put c.requires

pub overflow_sub-i : goal.overflow_sub-i
overflow_sub-i c = room c.requires c.loop-v.invariant

pub bounds-line-i : goal.bounds-line-i
bounds-line-i c = inside c.requires c.loop-v.invariant

pub loop-v-preserved : goal.loop-v-preserved
loop-v-preserved c = one_more c.requires c.loop-v.invariant (omega arith)

pub overflow_sub-line : goal.overflow_sub-line
overflow_sub-line c = room c.requires c.loop-v.invariant

pub bounds-line-i-2 : goal.bounds-line-i-2
bounds-line-i-2 c = inside c.requires c.loop-v.invariant

pub shape_of-line : goal.shape_of-line
shape_of-line c = simp length-set c.loop-v.invariant.same

pub returns : goal.returns
returns c = all_put c.requires c.loop-v.invariant (omega arith)
