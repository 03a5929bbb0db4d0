-- Each turn of the loop is a turn of the walk.
use mathlib.Core.Path.{◌≡◌}
use Prim.Native.Nat.{◌-◌}
use Rattle.table.specs.Decode.{decode}
use Rattle.table_check.specs.Walk.{walk}
use Rattle.table_check.proofs.walk.mark_from.Given as goal

abbrev pub invariant-loop : goal.invariant-loop
invariant-loop g l =
    let turns = walk l.g (g.W.Way.step l.way l.g (decode l.g l.t).overflow) in
    turns (l.g.nob - l.counter) l.b.0 l.marks ≡ turns l.g.nob l.fn.first.0 l.initial.marks
