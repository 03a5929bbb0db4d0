-- The ranges are those of the bytes that are not of class other.
use Rattle.text_run.proofs.Tests.{tested}
use Rattle.text_run.proofs.run.in_run.Goals as goal

pub returns : goal.returns
returns c = tested _
