-- What the functions below page are asked and answer. Only private contracts cite these.
use Rattle.std.specs.Prelude.{◌≡◌, List, [], ◌∷◌, ◌++◌, ℕ, length, drop, Err}
use Rattle.std.specs.declared.result.Result.{Result}
use Rattle.settings.specs.Layout.{layout_of}
use Rattle.settings.specs.Legal.{Legal}
use Rattle.settings.specs.Reply.{Reply, called}
use Rattle.settings.specs.declared.settings.Settings.{Settings}
use Rattle.settings.specs.declared.refusal.Refusal.{Refusal}
use Rattle.settings.specs.declared.layout.Layout.{Layout}
use Rattle.table.specs.Decode.{decode}
use Rattle.table.specs.Table.{Table}
use Rattle.table_cursor.specs.Ahead.{Good}
use Rattle.table_cursor.specs.declared.places.Cursor.{Cursor}
use Rattle.plain_set.specs.Rebuilt.{Pair}
use Rattle.plain_set.specs.Nth.{Undamaged}
use Rattle.text_sheet.specs.Row.{heading, rows}
use Rattle.text_sheet.specs.Answers.{damage_due, page_due, page_put}

-- the settings are legal, and g is their layout; the bytes t hold a table without damage, and the cursor c can be moved on
pub record Ready (s : Settings) (g : Layout) (t : List ℕ) (c : Cursor) : Type 0 where
  pub legal : Legal s
  pub laid : layout_of s ≡ g
  pub table : Table g t
  pub whole : Undamaged g (decode g t)
  pub good : Good g t c

-- the heading and the rows of ps stand in front of what stays, and r is their number of bytes
pub record Lines (ps : List Pair) (before after : List ℕ) (r : ℕ) : Type 0 where
  pub end : r ≡ length (heading ++ rows ps)
  pub are : after ≡ (heading ++ rows ps) ++ drop r before

-- what page comes to once refusals 1, 2, 3 and 9 are settled
abbrev pub page_after : Settings → List ℕ → ℕ → List ℕ → Reply (Result ℕ Refusal)
page_after s t k out = called Err out (damage_due s t ∷ page_due s t k ∷ []) (page_put s t k out)
