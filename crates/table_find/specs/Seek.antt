-- Behind the checks: the table opened for a key, and the key sought in its list. Only contracts of functions cite these; the calls' own do not.
use Rattle.std.specs.Prelude.{ℕ, List, [], ◌∷◌, Err, Ok, ⊤}
use Rattle.settings.specs.declared.settings.Settings.{Settings}
use Rattle.settings.specs.Layout.{layout_of}
use Rattle.settings.specs.Due.{unless_due, settings_due, short_due, key_due}
use Rattle.keys.specs.declared.Key.{Key}
use Rattle.keys.specs.Key.{key_number, list_number, entry, place_of}
use Rattle.table.specs.Find.{find_in}
use Rattle.table.specs.Calls.{held}
use Rattle.settings.specs.declared.layout.Layout.{Layout}
use Rattle.table_find.specs.declared.Sought.{Sought}
use Rattle.std.specs.declared.result.Result.{Result}
use Rattle.settings.specs.declared.refusal.Refusal.{Refusal}

-- the layout of a table of n lent bytes that the key k goes to, or the first of refusals 1, 2 and 5 that is due
unfoldable pub open_of : Settings → ℕ → Key → Result Layout Refusal
open_of s n k = unless_due (settings_due s ∷ short_due s n ∷ key_due s (key_number k) ∷ []) Err (Ok (layout_of s))

-- the layout g, for a call that goes on to the table
abbrev pub laid_if : Layout → Result ⊤ Refusal → Result Layout Refusal
laid_if g (Ok tt) = Ok g
laid_if g (Err why) = Err why

-- where the key k belongs, and what find answers
unfoldable pub sought_of : Settings → List ℕ → Key → Sought
sought_of s t k =
    record {
      place = place_of s (key_number k);
      found = find_in (layout_of s) (held s t) (list_number s (key_number k)) (entry s (key_number k));
    }
