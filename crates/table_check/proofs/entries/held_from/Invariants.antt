-- Each turn looks in one block; what is left is looked for in the blocks after it.
use mathlib.Core.Path.{◌≡◌}
use Prim.Native.Nat.{◌-◌}
use Rattle.keys.specs.Key.{key_number}
use Rattle.table.specs.Decode.{decode}
use Rattle.table.specs.Check.{has_entry}
use Rattle.table_check.specs.Entries.{slots_from}
use Rattle.table_check.proofs.entries.held_from.Given as goal

abbrev pub invariant-loop : goal.invariant-loop
invariant-loop l =
    has_entry l.g (key_number l.entry) (slots_from l.g (l.most - l.counter) (decode l.g l.t).overflow l.b.0)
    ≡ has_entry l.g (key_number l.entry) (slots_from l.g l.most (decode l.g l.t).overflow l.fn.first.0)
