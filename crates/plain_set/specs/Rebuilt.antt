-- Clause 8.2: the pairs rebuilt from the bits.
use Rattle.std.specs.Prelude.{ℕ, suc, List, [], ◌∷◌, ◌++◌}
use Rattle.std.proofs.Math.Option.{Option, none, some}
use Rattle.settings.specs.declared.settings.Settings.{Settings}
use Rattle.keys.specs.Key.{rebuilt}
use Rattle.settings.specs.Layout.{layout_of}
use Rattle.table.specs.State.{Basic, Overflow, State, entry_of, label_of}
use Rattle.table.specs.Follow.{Content, content_of}

pub record Pair : Type 0 where
  pub key : ℕ
  pub label : ℕ

abbrev pub pair : ℕ → ℕ → Pair
pair k l = record { key = k; label = l }

-- the slots in use of a list that was followed; a damaged one gives none
abbrev pub slots_of : Option Content → List ℕ
slots_of none = []
slots_of (some v) = v.slots

module _ (s : Settings) where
  abbrev pub pair_of : ℕ → ℕ → Pair
  pair_of i x = pair (rebuilt s i (entry_of (layout_of s) x)) (label_of (layout_of s) x)

  -- the pairs of list i
  abbrev pub pairs_of : ℕ → List ℕ → List Pair
  pairs_of i [] = []
  pairs_of i (x ∷ xs) = pair_of i x ∷ pairs_of i xs

  abbrev pub rebuilt_from : ℕ → List Basic → List Overflow → List Pair
  rebuilt_from i [] os = []
  rebuilt_from i (b ∷ bs) os = pairs_of i (slots_of (content_of (layout_of s) i b os)) ++ rebuilt_from (suc i) bs os

  -- all pairs, lists by number, entries in list order
  unfoldable pub rebuilt_pairs : State → List Pair
  rebuilt_pairs st = rebuilt_from 0 st.basic st.overflow
