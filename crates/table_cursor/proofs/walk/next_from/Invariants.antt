-- The lists that were passed have no pairs.
use mathlib.Core.Path.{◌≡◌}
use Rattle.settings.specs.Layout.{layout_of}
use Rattle.settings.specs.declared.settings.Settings.{Settings}
use Rattle.table_cursor.specs.Ahead.{pairs_from}
use Rattle.table_cursor.proofs.walk.next_from.Given as goal

abbrev pub invariant-loop-j : goal.invariant-loop-j
invariant-loop-j l = (s : Settings) → layout_of s ≡ l.g → pairs_from s l.t l.fn.i ≡ pairs_from s l.t l.j
