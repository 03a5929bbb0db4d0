-- What write does: it takes bytes from the start of the slice, as many as it answers.
use Rattle.filter.specs.World.{taken_more}
use Rattle.filter.proofs.Moves.{moved_within}
use Rattle.filter.proofs.streams.write_once.Goals as goal

pub returns : goal.returns
returns c = (moved_within _ _ _ (λ n h. h) c.write.ensures.bound, taken_more _)
