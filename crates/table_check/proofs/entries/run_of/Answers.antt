-- Each function gives what the definition has.
use mathlib.Core.Path.{ap, ◌∙◌}
use Rattle.table_read.specs.Steps.{overflow_run}
use Rattle.table_check.specs.Entries.{run_of}
use Rattle.table_check.proofs.entries.run_of.Goals as goal

pub returns : goal.returns
unfolding run_of
returns c = let a = c.args in c.overflow_run.ensures ∙ ap (overflow_run a.g a.b.0) c.min.ensures
