use Rattle.std.proofs.Common.{rules}
use Rattle.filter.specs.World.{erred}
use Rattle.filter.proofs.read_some.Goals as goal

pub returns-then-ne : goal.returns-then-ne
returns-then-ne c = (erred, search rules)
