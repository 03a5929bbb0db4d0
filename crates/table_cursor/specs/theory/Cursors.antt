-- What a cursor's answer tells who matched it.
use Rattle.std.specs.Prelude.{◌≡◌, List, ℕ, Some, None}
use Rattle.std.specs.declared.option.Option.{Option}
use Rattle.settings.specs.declared.settings.Settings.{Settings}
use Rattle.settings.specs.declared.layout.Layout.{Layout}
use Rattle.plain_set.specs.Rebuilt.{Pair}
use Rattle.table_cursor.specs.Ahead.{Gives, Ends, Answers}
use Rattle.table_cursor.specs.declared.places.Next.{Next}

module _ (g : Layout) (t : List ℕ) (ps : Settings → List Pair) (r : Option Next) (told : Answers g t ps r) where
  pub given : (x : Next) → r ≡ Some x → Gives g t ps x
  given x is = rw is at told

  pub ended : r ≡ None → Ends g t ps
  ended is = rw is at told
