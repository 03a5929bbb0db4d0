-- In a list without overflow blocks it is one store.
use native.Mathlib.Omega.{arith}
use Rattle.table_relabel.proofs.LabelLaws.{label_within, relabelled_short}
use Rattle.table_relabel.proofs.label.relabel_first.Goals as goal

pub put-requires-clause-within : goal.put-requires-clause-within
put-requires-clause-within c = label_within c.requires.0 _ c.requires.2 c.requires.1

pub returns-then-front-g : goal.returns-then-front-g
returns-then-front-g c =
    relabelled_short c.requires.0 (omega (arith, c.basic_front-front.ensures.0, c.if-front-g.true)) _ c.requires.2 _ (rw c.from.ensures at c.put.ensures)
