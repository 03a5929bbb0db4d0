-- Each turn walks one list; what came before is the walk over the lists before it.
use mathlib.Core.Path.{◌≡◌}
use mathlib.Core.Option.{some}
use Rattle.table.specs.Decode.{decode}
use Rattle.table_check.specs.Lists.{lists_walk}
use Rattle.table_check.proofs.lists.lists_sound.Given as goal

abbrev pub invariant-loop-i : goal.invariant-loop-i
invariant-loop-i l = lists_walk l.g (decode l.g l.t) l.i l.initial.marks ≡ some l.marks
