-- Words that only private contracts use.
use Rattle.std.specs.Prelude.{◌≡◌, List, ◌++◌, ℕ, ◌+◌, ◌≤◌, length, take, drop}
use Rattle.keys.specs.declared.Key.{Key}
use Rattle.settings.specs.Reply.{Reply, answering}
use Rattle.table.specs.Calls.{key_call}
use Rattle.table.specs.declared.answers.Word.{Word}
use Rattle.table.specs.declared.answers.Word.TheVariants as word
use Rattle.program_commands.specs.declared.command.Request.{Request}
use Rattle.program_answers.specs.Program.{program}
use Rattle.program_answers.specs.Outcome.{verb_of}
use Rattle.program_answers.specs.Answer.{answer_room, answer_text}

-- one of the three words that say a change
abbrev pub Change : Word → Type 0
Change w = (w ≡ word.Held → ⊥) × (w ≡ word.None → ⊥)

-- text was put at the place `at` of out, which is now out', and r is the place behind it; what stands from there on stays
pub record Put (text out : List ℕ) (at : ℕ) (out' : List ℕ) (r : ℕ) : Type 0 where
  pub end : r ≡ at + length text
  pub is : take r out' ≡ take at out ++ text
  pub rest : drop r out' ≡ drop r out

-- text was put at the start of what is now out, and r is its length
pub record Wrote (text out : List ℕ) (r : ℕ) : Type 0 where
  pub room : r ≤ answer_room
  pub is : take r out ≡ text

-- what is written for a command whose address is read as the key k, and the table afterwards
abbrev pub key_reply : List ℕ → Request → Key → Reply (List ℕ)
key_reply t q k = answering (answer_text k) (key_call program t (verb_of q.op q.label) k)

-- the text of the reply o was put at the start of what is now out, and u are its bytes
pub record Answered (o : Reply (List ℕ)) (u out : List ℕ) (r : ℕ) : Type 0 where
  pub text : Wrote o.answer out r
  pub bytes : u ≡ o.bytes
