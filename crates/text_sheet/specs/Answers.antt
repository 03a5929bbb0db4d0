-- What page answers, and what it leaves in the lent bytes (clauses 9.10 and 9.11).
use Rattle.std.specs.Prelude.{ℕ, not, ◌&&◌, List, [], ◌∷◌, ◌++◌, length, drop, leb, Ok, Err}
use Rattle.std.specs.declared.result.Result.{Result}
use Rattle.settings.specs.declared.settings.Settings.{Settings}
use Rattle.settings.specs.declared.refusal.Refusal.{Refusal}
use Rattle.settings.specs.declared.refusal.Refusal.TheVariants as refusal
use Rattle.settings.specs.Layout.{layout_of}
use Rattle.settings.specs.Due.{Due, due, settings_due, short_due, width_due}
use Rattle.settings.specs.Reply.{Reply, reply, called}
use Rattle.table.specs.Calls.{held}
use Rattle.table_cursor.specs.Undamaged.{undamaged}
use Rattle.plain_set.specs.Rebuilt.{Pair, rebuilt_pairs}
use Rattle.text_sheet.specs.Pages.{page_count, page_text}

-- 9: fewer bytes are lent than a full page has, a heading and 40 rows of 51 bytes
abbrev pub page_room : ℕ
page_room = 2091

module _ (s : Settings) (t : List ℕ) where
  -- the records in record order: lists by number, entries in list order
  abbrev pub records : List Pair
  records = rebuilt_pairs s (held s t)

  -- 7: a list is damaged; every list is followed to its end
  abbrev pub damage_due : Due
  damage_due = due (not (undamaged (layout_of s) (held s t))) refusal.Damage

  -- 13: there is no page k
  abbrev pub page_due : ℕ → Due
  page_due k = due (not (leb 1 k && leb k (page_count (length records)))) refusal.Page

  -- the number of bytes written; the bytes behind them stay
  abbrev pub page_put : ℕ → List ℕ → Reply (Result ℕ Refusal)
  page_put k out = let text = page_text records k in reply (Ok (length text)) (text ++ drop (length text) out)

  unfoldable pub page_call : ℕ → List ℕ → Reply (Result ℕ Refusal)
  page_call k out =
      called Err out
      (settings_due s ∷ short_due s (length t) ∷ width_due s ∷ due (not (leb page_room (length out))) refusal.Output ∷ damage_due ∷ page_due k ∷ [])
      (page_put k out)
