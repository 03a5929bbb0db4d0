-- Behind the checks of a call with a text. Only contracts of functions cite these.
use Rattle.std.specs.Prelude.{List, [], ◌∷◌, ℕ, length, Err, Ok}
use Rattle.settings.specs.declared.settings.Settings.{Settings}
use Rattle.settings.specs.Due.{unless_due, settings_due, short_due, width_due}
use Rattle.text_read.specs.Answers.{reading_of}
use Rattle.table.specs.Answer.{no_key}
use Rattle.text_calls.specs.TextCalls.{for_key, key_read, text_due}
use Rattle.text_calls.specs.declared.calls.TextAnswer.{TextAnswer}
use Rattle.std.specs.declared.result.Result.{Result}
use Rattle.settings.specs.declared.refusal.Refusal.{Refusal}
use Rattle.keys.specs.declared.Key.{Key}

-- the key of the text x for the lent table t, or the first of refusals 1 to 4 that is due
unfoldable pub admitted_of : Settings → List ℕ → List ℕ → Result Key Refusal
admitted_of s t x =
    unless_due (settings_due s ∷ short_due s (length t) ∷ width_due s ∷ text_due x ∷ []) Err (Ok (key_read (reading_of x)))

-- a call's answer; a refusal that comes before the text is read is for key 0
abbrev pub or_refused : Result TextAnswer Refusal → TextAnswer
or_refused (Ok a) = a
or_refused (Err why) = for_key no_key (Err why)
