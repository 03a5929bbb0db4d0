-- The invariant: the marks are those of the groups from i on.
use mathlib.Core.Path.{◌≡◌}
use Prim.Native.Nat.{◌<◌}
use lib.ListN.{drop}
use Rattle.text_write.specs.WriterSteps.{key_groups, run_marks}
use Rattle.text_write.proofs.writer.zero_groups.Given as goal

abbrev pub invariant-loop-i : goal.invariant-loop-i
invariant-loop-i l = (l.marks < 256) × (l.marks ≡ run_marks 1 (drop l.i (key_groups l.key)))
