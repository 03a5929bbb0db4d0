-- What read does: it gives bytes to the start of the buffer, as many as it answers.
use Rattle.std.proofs.Common.{arith}
use Rattle.filter.specs.World.{given_more}
use Rattle.filter.proofs.Moves.{moved_within}
use Rattle.filter.proofs.streams.read_once.Goals as goal

pub returns : goal.returns
returns c = (moved_within _ _ _ (λ n h. omega (arith, h, c.read.auto.buf)) c.read.ensures.bound, given_more _)
