-- What is left of the text, with the groups read so far, gives the answer.
use Prim.Native.Nat.{◌-◌, ◌≤◌}
use mathlib.Core.Path.{◌≡◌}
use lib.ListN.{length, drop}
use Rattle.text_read.specs.ReaderSteps.{part_at}
use Rattle.text_read.proofs.reader.read_part.Given as goal

abbrev pub invariant-loop-value : goal.invariant-loop-value
invariant-loop-value l =
    (l.at ≤ length l.text)
    × (part_at 0 0 (drop l.from l.text) l.from ≡ part_at l.groups.number l.groups.count (drop l.at l.text) l.at)

abbrev pub decreases-loop-value : goal.decreases-loop-value
decreases-loop-value l = length l.text - l.at
