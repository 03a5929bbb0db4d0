-- The program is the plain set of demand 3: each line that it writes is the set's answer to the line that it reads.
use Rattle.std.specs.Prelude.{◌≡◌, List, [], ◌∷◌, ℕ}
use Rattle.std.proofs.Math.Option.{Option, none, some}
use Rattle.settings.specs.Layout.{layout_of}
use Rattle.settings.specs.declared.refusal.Refusal.TheVariants as refusal
use Rattle.keys.specs.Key.{key_of, entry, list_number}
use Rattle.table.specs.Follow.{content}
use Rattle.table.specs.Find.{compared_in}
use Rattle.plain_set.specs.Rebuilt.{Pair, slots_of}
use Rattle.table.specs.Calls.{held}
use Rattle.table.specs.declared.answers.Word.{Word}
use Rattle.text_write.specs.Writing.{written}
use Rattle.program_commands.specs.Command.{Command, command_of}
use Rattle.program_answers.specs.Program.{program, program_bytes}
use Rattle.program_answers.specs.Outcome.{verb_of}
use Rattle.program_answers.specs.Answer.{refused_text, said_text, line_reply}
use Rattle.plain_set.specs.Set.{Call, key_given, Answer, said, refused, Step, step, set_step}
use Rattle.plain_set.specs.Holds.{Holds}
use Rattle.text_calls.specs.Asked.{by_text}
use Rattle.demand3.specs.Claim.{given}

-- What the set answers to a line ---------------------------------------------------------------------------------------------

-- the call that a command asks for, as the set is given it
abbrev pub call_of : Command → Call
call_of c = given (by_text (verb_of c.op c.label) c.address)

-- a line that is no command is refused 11, and the set stays
abbrev pub command_step : List Pair → Option Command → Step
command_step ps none = step (refused refusal.Line) ps
command_step ps (some c) = set_step program program_bytes ps (call_of c)

abbrev pub line_step : List Pair → List ℕ → Step
line_step ps l = command_step ps (command_of l)

-- That answer as a line of output --------------------------------------------------------------------------------------------

-- the key that a command names; where there is none, the answer is a refusal
abbrev pub key_named : Option Command → ℕ
key_named none = 0
key_named (some c) = key_given (call_of c).given

-- clause 6.3, compared: counted on the key's list as the bits of t hold it
abbrev pub compared_on : List ℕ → ℕ → ℕ
compared_on t k = compared_in (layout_of program) (entry program k) (slots_of (content (layout_of program) (held program t) (list_number program k)))

-- the key's address, as it is written
abbrev pub address_text : ℕ → List ℕ
address_text k = written (key_of k).high (key_of k).low

-- clause 10.5: the line for the set's answer, for the key k, beside the table t
abbrev pub printed : List ℕ → ℕ → Answer → List ℕ
printed t k (said w label) = said_text (address_text k) w label (compared_on t k)
printed t k (refused why) = refused_text why

abbrev pub line_text : List ℕ → List Pair → List ℕ → List ℕ
line_text t ps l = printed t (key_named (command_of l)) (line_step ps l).answer

-- The claim ------------------------------------------------------------------------------------------------------------------

-- at the start and after each line the table's bytes hold the set, and what is written for each line is the set's answer to it
abbrev pub Behaves : List ℕ → List Pair → List (List ℕ) → Type 0
Behaves t ps [] = Holds program t ps
Behaves t ps (l ∷ ls) =
    Holds program t ps × ((line_reply t l).answer ≡ line_text t ps l) × Behaves (line_reply t l).bytes (line_step ps l).after ls

-- the set's answers to all lines, a line for each; the table is there for `compared` alone
abbrev pub set_lines : List ℕ → List Pair → List (List ℕ) → List (List ℕ)
set_lines t ps [] = []
set_lines t ps (l ∷ ls) = line_text t ps l ∷ set_lines (line_reply t l).bytes (line_step ps l).after ls

-- the lines that the program can write: of the refusals, only 4, 6, 8, 11 and 12
pub data Line : List ℕ → Type 0 where
  says : (k : ℕ) (w : Word) (label compared : ℕ) → Line (said_text (address_text k) w label compared)
  refuses_text : Line (refused_text refusal.Text)
  refuses_label : Line (refused_text refusal.Label)
  refuses_block : Line (refused_text refusal.NoBlock)
  refuses_line : Line (refused_text refusal.Line)
  refuses_known : Line (refused_text refusal.Known)
