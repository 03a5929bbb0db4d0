-- Clause 9.7: the calls with texts, made of the calls with keys. Refusals 3 and 4 come behind 1 and 2, and before
-- what the call with the key answers.
use Rattle.std.specs.Prelude.{ℕ, Bool, true, false, List, [], ◌∷◌, length, Err, Ok}
use Rattle.settings.specs.declared.settings.Settings.{Settings}
use Rattle.keys.specs.declared.Key.{Key}
use Rattle.settings.specs.declared.refusal.Refusal.TheVariants as refusal
use Rattle.settings.specs.Due.{Due, due, settings_due, short_due, width_due}
use Rattle.settings.specs.Reply.{Reply, answering, called}
use Rattle.table.specs.Answer.{no_key, Answer}
use Rattle.table.specs.Calls.{Verb, key_call}
use Rattle.text_read.specs.Answers.{reading_of}
use Rattle.text_calls.specs.declared.calls.TextAnswer.{TextAnswer}
use Rattle.std.specs.declared.result.Result.{Result}
use Rattle.settings.specs.declared.refusal.Refusal.{Refusal}

-- the key that was read; 0 if the text is not legal, and refused
abbrev pub key_read : Result Key Refusal → Key
key_read (Ok k) = k
key_read (Err why) = no_key

abbrev pub not_read : Result Key Refusal → Bool
not_read (Ok k) = false
not_read (Err why) = true

-- 4: the text is not legal
abbrev pub text_due : List ℕ → Due
text_due x = due (not_read (reading_of x)) refusal.Text

-- the call's answer, for the key k that the text is read as
abbrev pub for_key : Key → Answer → TextAnswer
for_key k a = record { key = k; answer = a }

-- find, enter, relabel and delete with the text x
unfoldable pub text_call : Settings → List ℕ → Verb → List ℕ → Reply TextAnswer
text_call s t v x =
    called (λ why. for_key no_key (Err why)) t (settings_due s ∷ short_due s (length t) ∷ width_due s ∷ text_due x ∷ [])
    (answering (for_key (key_read (reading_of x))) (key_call s t v (key_read (reading_of x))))
