-- Each field is the one that the definition has.
use Rattle.table_read.specs.Steps.{basic_run}
use Rattle.table_read.proofs.lists.basic_run.Goals as goal

pub returns : goal.returns
unfolding basic_run
returns c = λ i. record { start = c.basic_slots.ensures i; count = c.args.n; displaced = 0; value = 0 }
