-- Each return is a law of the line by what was found: the space before a label, and the label.
use Prim.Native.Nat.{◌+◌, ◌≤◌}
use native.Mathlib.Omega.{arith}
use lib.ListN.{length}
use Rattle.program_commands.proofs.Parses.{labelled_alone, label_fits, rest_fits, unaddressed_malformed, unlabelled, labelled_asks}
use Rattle.program_commands.proofs.command.parse_labelled.Goals as goal
use Rattle.program_commands.proofs.command.parse_labelled.Goals.{Else-end-n}

pub returns-then-end-n : goal.returns-then-end-n
returns-then-end-n c =
    labelled_alone _ _ c.requires _ _ c.label_room.ensures c.find_byte-end.ensures c.if-end-n.true

pub returns-then-end-eq2 : goal.returns-then-end-eq2
returns-then-end-eq2 c =
    unaddressed_malformed _ _ c.requires _ _ c.label_room.ensures c.find_byte-end.ensures c.if-end-n.false c.if-end-eq2.true

-- the space stands in the room of a label: three bytes at most are behind it
behind : (c : Else-end-n)
    → (c.find_byte-end.result + 1 ≤ length c.args.line.now)
    × (length c.args.line.now ≤ c.find_byte-end.result + 1 + 3)
behind c =
    label_fits _ _ c.requires _ _ c.label_room.ensures c.find_byte-end.ensures c.if-end-n.false

pub overflow_add-end : goal.overflow_add-end
overflow_add-end c = omega (arith, behind (goal.at.overflow_add-end c).Else-end-n)

pub slice_bounds-label_from-count : goal.slice_bounds-label_from-count
slice_bounds-label_from-count c = omega (arith, behind (goal.at.slice_bounds-label_from-count c).Else-end-n)

pub slice_bounds-label_from-start : goal.slice_bounds-label_from-start
slice_bounds-label_from-start c = omega (arith, behind (goal.at.slice_bounds-label_from-start c).Else-end-n)

pub label_from-requires : goal.label_from-requires
label_from-requires c =
    rest_fits _ _ c.requires _ _ c.label_room.ensures c.find_byte-end.ensures c.if-end-n.false

pub returns-in_err-label : goal.returns-in_err-label
returns-in_err-label c =
    rw c.from_residual.ensures
    (unlabelled _ _ c.requires _ _ c.label_room.ensures c.find_byte-end.ensures c.if-end-n.false c.in_err-label.ensures)

pub returns : goal.returns
returns c =
    labelled_asks _ _ c.requires _ _ c.label_room.ensures c.find_byte-end.ensures c.if-end-n.false _ c.in_ok-label.ensures c.if-end-eq2.false
