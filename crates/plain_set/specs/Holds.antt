-- Demand 3: when a table's bytes hold a set of pairs.
use Rattle.std.specs.Prelude.{◌≡◌, true, List, ℕ}
use Rattle.settings.specs.declared.settings.Settings.{Settings}
use Rattle.settings.specs.Layout.{layout_of}
use Rattle.table.specs.Decode.{decode}
use Rattle.plain_set.specs.Rebuilt.{Pair, rebuilt_pairs}
use Rattle.table.specs.Check.{table_sound}
use Rattle.plain_set.specs.Same.{SamePairs, NoKeyTwice}

module _ (s : Settings) where
  -- clause 8.9: the pairs rebuilt from the bits are the set, and the table is sound
  pub record Holds (t : List ℕ) (ps : List Pair) : Type 0 where
    pub pairs : SamePairs (rebuilt_pairs s (decode (layout_of s) t)) ps
    pub once : NoKeyTwice ps
    pub sound : table_sound (layout_of s) t ≡ true
