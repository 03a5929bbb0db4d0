-- Where no bits are displaced, the slots count as they stand.
use native.Mathlib.Omega.{arith}
use Rattle.keys.specs.Key.{key_number}
use Rattle.table_read.specs.Steps.{restored_bytes}
use Rattle.table_read.specs.theory.Scans.{restored_bytes_plain}
use Rattle.table_check.proofs.entries.scan_run.Goals as goal

pub returns-then-b-eq0 : goal.returns-then-b-eq0
returns-then-b-eq0 c =
    rw (restored_bytes_plain c.args.t.now c.args.b c.if-b-eq0.true) c.scan.ensures

pub scan_displaced-requires-clause-row : goal.scan_displaced-requires-clause-row
unfolding key_number
scan_displaced-requires-clause-row c = (c.requires.row.0, omega (arith, c.if-count-eq0.false), c.requires.row.1)

pub returns : goal.returns
unfolding restored_bytes key_number
returns c = c.scan_displaced.ensures
