-- A line that is too long.
use Rattle.std.specs.Prelude.{◌≡◌, List, ℕ, ◌<◌, length}
use Rattle.std.proofs.Math.Option.{none}
use Rattle.std.proofs.lemmas.Bool.{lt-leb}
use Rattle.program_commands.specs.Command.{longest_line, command_of}

pub long_none : (l : List ℕ) → longest_line < length l → command_of l ≡ none
unfolding command_of
long_none l h = rw (lt-leb (length l) longest_line h)
