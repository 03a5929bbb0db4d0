-- What the survey of a table tells.
use Rattle.std.specs.Prelude.{◌≡◌, false, List, ℕ, ◌^◌, ◌<◌, length, drop, Ok, Err}
use Rattle.std.specs.declared.result.Result.{Result}
use Rattle.std.proofs.Math.Option.{Option, none, some}
use Rattle.settings.specs.Layout.{layout_of}
use Rattle.settings.specs.declared.settings.Settings.{Settings}
use Rattle.settings.specs.declared.layout.Layout.{Layout}
use Rattle.table.specs.State.{Overflow}
use Rattle.table.specs.Decode.{decode}
use Rattle.table.specs.Follow.{Content, gather}
use Rattle.table.specs.declared.damage.Damage.{Damage}
use Rattle.plain_set.specs.Rebuilt.{rebuilt_pairs}
use Rattle.plain_set.specs.Nth.{Undamaged}
use Rattle.table_cursor.specs.Undamaged.{undamaged}
use Rattle.table_cursor.specs.Ahead.{ahead, Good}
use Rattle.table_cursor.specs.declared.places.Cursor.{Cursor}
use Rattle.table_cursor.specs.declared.places.Survey.{Survey}

-- the entries of the blocks that were followed
abbrev pub blocks_length : Layout → List Overflow → Option (List ℕ) → Result ℕ Damage
blocks_length g os none = Err (record {})
blocks_length g os (some bs) = Ok (length (gather g os bs))

-- the entries of a list
abbrev pub list_length : Option Content → Result ℕ Damage
list_length none = Err (record {})
list_length (some v) = Ok (length v.slots)

module _ (g : Layout) (t : List ℕ) (n : ℕ) where
  -- no list is damaged, there are k records, and the cursor stands before record n, if there is one or n is 0
  pub record Counts (k : ℕ) (c : Cursor) : Type 0 where
    pub whole : Undamaged g (decode g t)
    pub few : k < 2 ^ 40
    pub count : (s : Settings) → layout_of s ≡ g → length (rebuilt_pairs s (decode g t)) ≡ k
    pub good : Good g t c
    pub are : (0 < n → n < k) → (s : Settings) → layout_of s ≡ g → ahead s t c ≡ drop n (rebuilt_pairs s (decode g t))

  abbrev pub Surveys : Result Survey Damage → Type 0
  Surveys (Ok r) = Counts r.count r.cursor
  Surveys (Err _) = undamaged g (decode g t) ≡ false
