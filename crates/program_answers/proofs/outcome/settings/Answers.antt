-- The settings are legal.
use mathlib.Core.Path.{◌∙◌}
use Rattle.settings.specs.Made.{made_of}
use Rattle.program_answers.specs.theory.Program.{program_legal}
use Rattle.program_answers.proofs.outcome.settings.Goals as goal

pub returns : goal.returns
unfolding made_of
returns c = c.new.ensures ∙ rw program_legal
