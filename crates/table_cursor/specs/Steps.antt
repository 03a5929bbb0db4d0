-- What the functions below next and survey are asked and answer. Only private contracts cite these.
use Rattle.std.specs.Prelude.{◌≡◌, ℕ, suc, ◌≤◌, ◌<◌, List, [], ◌++◌}
use Rattle.settings.specs.Layout.{layout_of}
use Rattle.settings.specs.declared.settings.Settings.{Settings}
use Rattle.settings.specs.declared.layout.Layout.{Layout}
use Rattle.keys.specs.Key.{key_of}
use Rattle.table.specs.State.{entry_of, label_of}
use Rattle.table.specs.Decode.{decode}
use Rattle.table.specs.declared.step.Step.{Step}
use Rattle.plain_set.specs.Rebuilt.{Pair, pairs_of}
use Rattle.table_cursor.specs.Ahead.{gather_behind, slots_ahead, pairs_from, ahead, Good, Ends}
use Rattle.table_cursor.specs.declared.places.Cursor.{Cursor}
use Rattle.table.specs.declared.slot.Slot.{Slot}

-- the cursor c stands before the slots es, which are of list i; its run is empty only if they are none
pub record Begins (g : Layout) (t : List ℕ) (i : ℕ) (es : List ℕ) (c : Cursor) : Type 0 where
  pub good : Good g t c
  pub list : c.list.0 ≡ i
  pub passed : c.passed ≡ 0
  pub slots : slots_ahead g t c ≡ es
  pub empty : c.run.count ≡ 0 → es ≡ []

-- the pairs behind a run of list i, from which a step leads on: those of the blocks that it leads to, and of the lists behind i
unfoldable pub pairs_behind : Settings → Layout → List ℕ → ℕ → Step → List Pair
pairs_behind s g t i n = pairs_of s i (gather_behind g (decode g t).overflow n) ++ pairs_from s t (suc i)

-- the cursor c stands at the first of the pairs ps; at the end of its run, there are none
pub record Reaches (g : Layout) (t : List ℕ) (ps : Settings → List Pair) (c : Cursor) : Type 0 where
  pub good : c.passed < c.run.count → Good g t c
  pub are : c.passed < c.run.count → (s : Settings) → layout_of s ≡ g → ps s ≡ ahead s t c
  pub none : c.run.count ≤ c.passed → Ends g t ps

-- what a slot holds
pub record Holds (g : Layout) (slot : ℕ) (r : Slot) : Type 0 where
  pub entry : r.entry ≡ key_of (entry_of g slot)
  pub label : r.label ≡ label_of g slot
