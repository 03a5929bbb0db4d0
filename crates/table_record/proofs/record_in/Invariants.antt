-- Record m of the lists from list i on is record n of all of them.
use mathlib.Core.Path.{◌≡◌}
use Rattle.table.specs.Decode.{decode}
use Rattle.table.specs.Record.{record_in}
use Rattle.table_record.specs.RecordSteps.{records_from}
use Rattle.table_record.proofs.record_in.Given as goal

abbrev pub invariant-loop-i : goal.invariant-loop-i
invariant-loop-i l = records_from l.s (decode l.g l.t) l.i l.m ≡ record_in l.s (decode l.g l.t) l.n
