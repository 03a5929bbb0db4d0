-- The program takes an address as a whole: bytes behind its run are refused.
use Rattle.std.specs.Prelude.{◌≡◌, refl, List, ℕ, ◌≤◌, ◌<◌, length}
use Rattle.std.proofs.Math.Option.{some}
use Rattle.settings.specs.declared.refusal.Refusal.TheVariants as refusal
use Rattle.settings.specs.Reply.{reply}
use Rattle.text_run.specs.Run.{run}
use Rattle.text_calls.specs.theory.Followed.{followed_call}
use Rattle.program_commands.specs.Command.{Command, command_of}
use Rattle.program_answers.specs.Program.{program, program_bytes}
use Rattle.program_answers.specs.Outcome.{verb_of, command_call}
use Rattle.program_answers.specs.Answer.{refused_text, answer_text, command_reply, line_reply}
use Rattle.program_answers.specs.theory.Program.{program_legal}

-- "The program .. still refuse 4 if bytes follow the run"
pub followed_line : (t l : List ℕ) (c : Command) → program_bytes ≤ length t → command_of l ≡ some c → length (run c.address) < length c.address
    → line_reply t l ≡ reply (refused_text refusal.Text) t
unfolding program_bytes line_reply command_reply command_call answer_text
followed_line t l c h e f = rw (e, followed_call program t (verb_of c.op c.label) c.address program_legal h refl f)
