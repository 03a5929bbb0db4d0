-- The run so far, and its end.
use Rattle.filter.proofs.Standing.{ran_whole}
use Rattle.filter.proofs.Memory.run.Goals as goal

pub returns : goal.returns
returns c =
    rw c.map_err.ensures.variant (ran_whole _ c.in_ok-s.ensures.0 c.in_ok-s.ensures.1 c.last_line.ensures)
