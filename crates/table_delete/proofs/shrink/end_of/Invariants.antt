-- The end from here on, with the block that was passed last, is that of the whole list.
use Rattle.table.specs.Decode.{decode}
use Rattle.table_delete.proofs.DeleteLaws.{Ending}
use Rattle.table_delete.proofs.shrink.end_of.Given as goal

abbrev pub invariant-loop : goal.invariant-loop
invariant-loop l = Ending l.g (decode l.g l.t).overflow l.fn.first.0 l.b.0 l.before l.counter
