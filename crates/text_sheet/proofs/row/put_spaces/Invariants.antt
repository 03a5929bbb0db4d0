-- The invariant: spaces stand from `from` up to i, and all else is as it was.
use mathlib.Core.Path.{◌≡◌}
use mathlib.Core.List.{◌++◌}
use Prim.Native.Nat.{◌-◌}
use lib.ListN.{take, drop, replicate}
use Rattle.text_sheet.proofs.row.put_spaces.Given as goal

abbrev pub invariant-loop-i : goal.invariant-loop-i
invariant-loop-i l = l.line ≡ take l.from l.initial.line ++ (replicate (l.i - l.from) 32 ++ drop l.i l.initial.line)
