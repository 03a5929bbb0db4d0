-- The answer as it is made.
use mathlib.Core.Path.{refl}
use Rattle.table_enter.proofs.append.Item.added.Goals as goal

pub returns : goal.returns
returns c = refl
