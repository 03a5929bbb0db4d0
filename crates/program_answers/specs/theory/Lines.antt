-- What a line comes to, by what was parsed and read of it.
use Rattle.std.specs.Prelude.{◌≡◌, true, false, Option, Some, None, List, ℕ, ◌≤◌, ◌<◌, length, Err, Ok}
use Rattle.std.proofs.Math.Path.{ap}
use Rattle.std.proofs.Common.{◌∙◌}
use Rattle.std.proofs.Math.Option.{none}
use Rattle.laws.specs.Cases.{cases}
use Rattle.keys.specs.declared.Key.{Key}
use Rattle.settings.specs.Reply.{reply, answering}
use Rattle.settings.specs.declared.refusal.Refusal.{Refusal}
use Rattle.settings.specs.declared.refusal.Refusal.TheVariants as refusal
use Rattle.text_read.specs.Answers.{reading_of}
use Rattle.text_calls.specs.declared.calls.TextAnswer.{TextAnswer}
use Rattle.program_commands.specs.Command.{mk_command, longest_line, command_of}
use Rattle.program_commands.specs.Steps.{spaceless, address_in, requested, Asks, unread_for}
use Rattle.program_commands.specs.theory.Long.{long_none}
use Rattle.program_commands.specs.declared.command.Request.{Request}
use Rattle.program_answers.specs.Program.{program_bytes}
use Rattle.program_answers.specs.Outcome.{verb_of, command_call}
use Rattle.program_answers.specs.Answer.{refused_text, answer_text, command_reply, line_reply}
use Rattle.program_answers.specs.Steps.{key_reply}
use Rattle.program_answers.specs.theory.Applies.{text_key, text_unread}

-- What was parsed ------------------------------------------------------------------------------------------------------------

pub record Parsing (l : List ℕ) (q : Request) : Type 0 where
  pub is : command_of l ≡ requested l (Some q)
  pub low : 2 ≤ q.end
  pub high : q.end ≤ length l

pub asks_request : (l : List ℕ) {r : Option Request} (q : Request) → Asks l r → r ≡ Some q → Parsing l q
asks_request l {r} q a e =
    let b = rw e at a in
    record { is = b.is; low = b.bounded.0; high = b.bounded.1 }

pub asks_none : (l : List ℕ) {r : Option Request} → Asks l r → r ≡ None → command_of l ≡ none
unfolding requested
asks_none l {r} a e =
    let b = rw e at a in
    b.is

-- What is answered ------------------------------------------------------------------------------------------------------------

-- a line that is no command
pub line_none : (t l : List ℕ) → command_of l ≡ none → line_reply t l ≡ reply (refused_text refusal.Line) t
unfolding line_reply command_reply
line_none t l e = rw e

-- clause 10.3: a command has at most 64 bytes
pub line_long : (t l : List ℕ) → longest_line < length l → line_reply t l ≡ reply (refused_text refusal.Line) t
line_long t l h = line_none t l (long_none l h)

module _ (t l : List ℕ) (q : Request) (e : command_of l ≡ requested l (Some q)) (h : program_bytes ≤ length t) where
  abbrev address : List ℕ
  address = address_in l q.end

  -- a command's text, of what its call answers
  abbrev said : TextAnswer → List ℕ
  said a = answer_text a.key a.answer

  spelled : spaceless address ≡ true → line_reply t l ≡ answering said (command_call t (mk_command q.op address q.label))
  unfolding requested line_reply command_reply
  spelled s = rw (e, s)

  broken : spaceless address ≡ false → command_of l ≡ none
  unfolding requested
  broken s = e ∙ rw s

  -- the address is read
  pub line_key : (k : Key) → reading_of address ≡ Ok k → spaceless address ≡ true → line_reply t l ≡ key_reply t q k
  unfolding command_call
  line_key k r s = spelled s ∙ ap (answering said) (text_key t h (verb_of q.op q.label) address k r)

  -- the address is not read; with a space in it, it is none
  pub line_unread : (why : Refusal) → reading_of address ≡ Err why → line_reply t l ≡ reply (refused_text (unread_for address)) t
  unfolding command_call answer_text unread_for
  line_unread why r =
      cases (spaceless address)
      (λ s. rw s (spelled s ∙ ap (answering said) (text_unread t h (verb_of q.op q.label) address why r)))
      (λ s. rw s (line_none t l (broken s)))
