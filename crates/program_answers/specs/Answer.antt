-- Clause 10.5: the line that answers a line.
use Rattle.std.specs.Prelude.{ℕ, List, [], ◌∷◌, ◌++◌, Ok, Err}
use Rattle.std.proofs.Math.Option.{Option, none, some}
use Rattle.settings.specs.Refusal.{number_of}
use Rattle.settings.specs.declared.refusal.Refusal.{Refusal}
use Rattle.settings.specs.declared.refusal.Refusal.TheVariants as refusal
use Rattle.settings.specs.Reply.{Reply, reply, answering}
use Rattle.keys.specs.declared.Key.{Key}
use Rattle.table.specs.declared.answers.Word.{Word}
use Rattle.table.specs.declared.answers.Word.TheVariants as word
use Rattle.text_write.specs.Writing.{written}
use Rattle.text_write.specs.Ascii.{ascii}
use Rattle.program_commands.specs.Command.{Command, command_of}
use Rattle.text_write.specs.Decimal.{decimal_text}
use Rattle.program_answers.specs.Outcome.{command_call}
use Rattle.table.specs.Answer.{Answer}

-- the words, with the spaces around them
unfoldable pub word_text : Word → List ℕ
word_text word.Added = ascii " added "
word_text word.Held = ascii " held "
word_text word.Gone = ascii " gone "
word_text word.None = ascii " none "
word_text word.Relabelled = ascii " relabelled "

-- an answer needs no more room: an address has at most 39 bytes, a word with its spaces 12, two numbers of ten digits with what follows them 22
abbrev pub answer_room : ℕ
answer_room = 80

-- an output line ends in a line feed (10)
unfoldable pub refused_text : Refusal → List ℕ
refused_text why = ascii "refused " ++ decimal_text (number_of why) ++ 10 ∷ []

unfoldable pub numbers_text : ℕ → ℕ → List ℕ
numbers_text label compared = decimal_text label ++ 32 ∷ decimal_text compared ++ 10 ∷ []

unfoldable pub said_text : List ℕ → Word → ℕ → ℕ → List ℕ
said_text address w label compared = address ++ word_text w ++ numbers_text label compared

-- the address, the word, the label and compared; or the refusal
unfoldable pub answer_text : Key → Answer → List ℕ
answer_text k (Ok said) = said_text (written k.high k.low) said.word said.label said.compared
answer_text k (Err why) = refused_text why

-- what is written for a line, and the table afterwards
unfoldable pub command_reply : List ℕ → Option Command → Reply (List ℕ)
command_reply t none = reply (refused_text refusal.Line) t
command_reply t (some c) = answering (λ a. answer_text a.key a.answer) (command_call t c)

unfoldable pub line_reply : List ℕ → List ℕ → Reply (List ℕ)
line_reply t l = command_reply t (command_of l)
