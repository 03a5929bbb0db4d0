-- What is answered to settings alone: refusal 1 exactly if they are not legal.
use Rattle.std.specs.Prelude.{cond, Err, Ok, ℕ}
use Rattle.settings.specs.Sizes.{table_bytes}
use Rattle.settings.specs.Legal.{legal}
use Rattle.settings.specs.Layout.{layout_of}
use Rattle.settings.specs.declared.settings.Settings.{Settings}
use Rattle.settings.specs.declared.refusal.Refusal.TheVariants as refusal
use Rattle.std.specs.declared.result.Result.{Result}
use Rattle.settings.specs.declared.refusal.Refusal.{Refusal}
use Rattle.settings.specs.declared.layout.Layout.{Layout}

-- the constructor's answer
unfoldable pub made_of : Settings → Result Settings Refusal
made_of s = cond (legal s) (Ok s) (Err refusal.Settings)

-- the bytes that the table needs
unfoldable pub size_of : Settings → Result ℕ Refusal
size_of s = cond (legal s) (Ok (table_bytes s)) (Err refusal.Settings)

-- the layout, for the calls on a table
unfoldable pub laid_of : Settings → Result Layout Refusal
laid_of s = cond (legal s) (Ok (layout_of s)) (Err refusal.Settings)
