-- What is found from here on, with the slots passed, is what is found from the first block on.
use mathlib.Core.Path.{◌≡◌}
use mathlib.Core.List.{List}
use Prim.Native.Nat.{ℕ, ◌+◌, ◌-◌, ◌*◌, ◌≤◌}
use Rattle.keys.specs.Key.{key_number}
use Rattle.settings.specs.declared.layout.Layout.{Layout}
use Rattle.table.specs.State.{Overflow}
use Rattle.table.specs.Decode.{decode}
use Rattle.table_read.specs.Steps.{Followed, gather_from, find_from}
use Rattle.table_read.specs.BlockSlots.{number_from}
use Rattle.table_find.proofs.search.find_blocks.Given as goal
use Rattle.table.specs.Answer.{Answer}

abbrev pub from : Layout → ℕ → ℕ → List Overflow → ℕ → ℕ → Answer
from g e m os b n = find_from g (number_from g m os b) e (gather_from g m os b) n

abbrev pub invariant-loop : goal.invariant-loop
invariant-loop l =
    (l.n ≤ l.k + 15 * l.counter) × Followed l.g (l.g.nob - l.counter) (decode l.g l.t).overflow l.b.0
    × (from l.g (key_number l.entry) (l.g.nob - l.counter) (decode l.g l.t).overflow l.b.0 l.n ≡ from l.g (key_number l.entry) l.g.nob (decode l.g l.t).overflow l.fn.first.0 l.k)
