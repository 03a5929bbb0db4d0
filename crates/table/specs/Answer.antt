-- What find, enter, relabel and delete answer: the number and the values of each case.
use Rattle.std.specs.Prelude.{ℕ, Ok, Err, Some}
use Rattle.settings.specs.Refusal.{number_of}
use Rattle.keys.specs.declared.Key.{Key}
use Rattle.table.specs.declared.answers.Word.{Word}
use Rattle.table.specs.declared.answers.Word.TheVariants as word
use Rattle.std.specs.declared.option.Option.{Option}
use Rattle.std.specs.declared.result.Result.{Result}
use Rattle.settings.specs.declared.refusal.Refusal.{Refusal}
use Rattle.table.specs.declared.answers.Record.{Record}
use Rattle.table.specs.declared.answers.Said.{Said}

abbrev pub Answer : Type 0
Answer = Result Said Refusal

-- a word, its label, how many entries were compared, and the number of the entry's slot (clause 6.17; 0 where there is none)
abbrev pub said : Word → ℕ → ℕ → ℕ → Answer
said w label compared slot = Ok (record { label = label; word = w; compared = compared; slot = slot })

-- what record and retrieve answer: a record, or none
abbrev pub RecordAnswer : Type 0
RecordAnswer = Result (Option Record) Refusal

abbrev pub recorded : Key → ℕ → RecordAnswer
recorded k label = Ok (Some (record { key = k; label = label }))

-- clause 6.14: the words, numbered; 0 is no word, 5 to 7 are those of record and check
abbrev pub word_number : Word → ℕ
word_number word.Added = 1
word_number word.Held = 2
word_number word.Gone = 3
word_number word.None = 4
word_number word.Relabelled = 8

abbrev pub no_key : Key
no_key = record { high = 0; low = 0 }

pub record Values : Type 0 where
  pub number : ℕ
  pub word : ℕ
  pub key : Key
  pub label : ℕ
  pub compared : ℕ
  pub slot : ℕ

-- number 0 is accepted, for the key k; clause 7.1: a refusal has its number, and 0 everywhere else
abbrev pub values_of : Key → Answer → Values
values_of k (Ok r) =
    record { number = 0; word = word_number r.word; key = k; label = r.label; compared = r.compared; slot = r.slot }
values_of k (Err why) = record { number = number_of why; word = 0; key = no_key; label = 0; compared = 0; slot = 0 }
