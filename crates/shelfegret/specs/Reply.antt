-- Each call's answer as C's one struct, with the number and the values of each case. Code 0 is
-- accepted.
use Rattle.std.specs.Prelude.{ℕ, Bool, false, true, ⊤, Ok, Err, Some, None}
use Rattle.settings.specs.Refusal.{number_of}
use Rattle.keys.specs.declared.Key.{Key}
use Rattle.settings.specs.declared.refusal.Refusal.{Refusal}
use Rattle.table.specs.Answer.{word_number, no_key, values_of, RecordAnswer}
use Rattle.table.specs.Answer as table
use Rattle.table.specs.declared.answers.Word.TheVariants as word
use Rattle.text_calls.specs.declared.calls.TextAnswer.{TextAnswer}
use Rattle.shelfegret.specs.declared.Answer.{Answer}
use Rattle.std.specs.declared.result.Result.{Result}

-- clause 7.1: a refusal has its number, and 0 everywhere else
abbrev pub refused_reply : Refusal → Answer
refused_reply why = record { code = number_of why; word = 0; key = no_key; label = 0; compared = 0; number = 0 }

-- accepted, with a word (0 where the call has none), a key, its label, how many entries were compared, and a number
abbrev pub saying : ℕ → Key → ℕ → ℕ → ℕ → Answer
saying word key label compared n = record { code = 0; word = word; key = key; label = label; compared = compared; number = n }

-- accepted, with a number alone
abbrev pub numbered : ℕ → Answer
numbered n = record { code = 0; word = 0; key = no_key; label = 0; compared = 0; number = n }

-- the bytes of the table, of a text or of a page
abbrev pub number_reply : Result ℕ Refusal → Answer
number_reply (Ok n) = numbered n
number_reply (Err why) = refused_reply why

abbrev pub make_reply : Result ⊤ Refusal → Answer
make_reply (Ok done) = numbered 0
make_reply (Err why) = refused_reply why

-- find, enter, relabel and delete, for the key asked for; the number is that of the entry's slot
abbrev pub answer_reply : Key → table.Answer → Answer
answer_reply key a =
    let v = values_of key a in
    record { code = v.number; word = v.word; key = v.key; label = v.label; compared = v.compared; number = v.slot }

-- and with a text: for the key that the text is read as
abbrev pub text_reply : TextAnswer → Answer
text_reply a = answer_reply a.key a.answer

-- record and retrieve, clauses 6.9, 6.14, 6.18 and 6.19; the words 5 to 7 are theirs and check's
abbrev pub record_reply : RecordAnswer → Answer
record_reply (Ok (Some r)) = saying 5 r.key r.label 0 0
record_reply (Ok None) = saying (word_number word.None) no_key 0 0 0
record_reply (Err why) = refused_reply why

-- clause 6.10
abbrev pub check_reply : Result Bool Refusal → Answer
check_reply (Ok true) = saying 6 no_key 0 0 0
check_reply (Ok false) = saying 7 no_key 0 0 0
check_reply (Err why) = refused_reply why

-- the key read
abbrev pub read_reply : Result Key Refusal → Answer
read_reply (Ok key) = saying 0 key 0 0 0
read_reply (Err why) = refused_reply why
