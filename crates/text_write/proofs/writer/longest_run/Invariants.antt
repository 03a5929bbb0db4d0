-- The invariant: the marks are those of runs of `count` groups, and those of longer ones are known. It speaks of any list with these marks,
-- since the key is not read in the loop.
use mathlib.Core.Path.{◌≡◌}
use mathlib.Core.List.{List}
use Prim.Native.Nat.{ℕ, ◌+◌, ◌-◌, ◌≤◌, ◌<◌}
use Rattle.text_write.specs.WriterSteps.{run_marks}
use Rattle.text_write.proofs.writer.longest_run.Given as goal

abbrev pub invariant-loop-longer : goal.invariant-loop-longer
invariant-loop-longer l =
    (2 ≤ l.count) × (l.count ≤ 8) × (0 < l.marks)
    × ((g : List ℕ) → l.single ≡ run_marks 1 g → (l.marks ≡ run_marks l.count g) × (l.longer ≡ run_marks (l.count + 1) g))

abbrev pub decreases-loop-longer : goal.decreases-loop-longer
decreases-loop-longer l = 8 - l.count
