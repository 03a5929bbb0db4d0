-- Find, enter, relabel and delete as a caller asks for them: with a key or a text, whatever it is, and any label.
use Rattle.std.specs.Prelude.{List, ℕ}
use Rattle.settings.specs.declared.settings.Settings.{Settings}
use Rattle.settings.specs.Reply.{Reply, answering}
use Rattle.keys.specs.declared.Key.{Key}
use Rattle.table.specs.Calls.{Verb, key_call}
use Rattle.text_calls.specs.TextCalls.{text_call}
use Rattle.table.specs.Answer.{Answer}

pub data Asked : Type 0 where
  by_key : Verb → Key → Asked
  by_text : Verb → List ℕ → Asked

abbrev pub verb_asked : Asked → Verb
verb_asked (by_key v k) = v
verb_asked (by_text v x) = v

-- the answer and the bytes that the contracts of the calls cite
abbrev pub table_call : Settings → List ℕ → Asked → Reply Answer
table_call s t (by_key v k) = key_call s t v k
table_call s t (by_text v x) = answering (λ a. a.answer) (text_call s t v x)
