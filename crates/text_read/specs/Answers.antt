-- What reading a text answers.
use Rattle.keys.specs.declared.Key.{Key}
use Rattle.settings.specs.declared.refusal.Refusal.{Refusal}
use Rattle.std.specs.Prelude.{ℕ, List, Result, Ok, Err}
use Rattle.std.proofs.Math.Option.{Option, none, some}
use Rattle.keys.specs.Key.{key_of}
use Rattle.settings.specs.declared.refusal.Refusal.TheVariants as refusal
use Rattle.text_read.specs.Reading.{groups_of, joined}

-- refusal 4: the text is not legal
unfoldable pub keyed : Option (List ℕ) → Result Key Refusal
keyed none = Err refusal.Text
keyed (some l) = Ok (key_of (joined 0 l))

unfoldable pub reading_of : List ℕ → Result Key Refusal
reading_of s = keyed (groups_of s)
