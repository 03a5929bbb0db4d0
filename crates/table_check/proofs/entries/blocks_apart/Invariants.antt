-- Each turn tests one block's slots against each other and against the blocks after it.
use mathlib.Core.Path.{◌≡◌}
use Rattle.table.specs.Decode.{decode}
use Rattle.table.specs.Check.{no_entry_twice}
use Rattle.table_check.specs.Entries.{slots_from}
use Rattle.table_check.proofs.entries.blocks_apart.Given as goal

abbrev pub invariant-loop-left : goal.invariant-loop-left
invariant-loop-left l =
    no_entry_twice l.g (slots_from l.g l.left (decode l.g l.t).overflow l.b.0) ≡ no_entry_twice l.g (slots_from l.g l.g.nob (decode l.g l.t).overflow l.fn.first.0)
