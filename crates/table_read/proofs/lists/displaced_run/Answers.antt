-- Each field is the one that the definition has.
use Rattle.table_read.specs.Steps.{displaced_run}
use Rattle.table_read.proofs.lists.displaced_run.Goals as goal

pub returns : goal.returns
unfolding displaced_run
returns c =
    let a = c.args in
    λ i. record { start = c.basic_slots.ensures i; count = a.g.sib; displaced = a.g.link; value = a.h }
