-- The label lies behind the bits that can be displaced.
use Prim.Native.Nat.{◌+◌}
use native.Mathlib.Omega.{arith}
use Rattle.std.proofs.Common.{rules}
use Rattle.table.specs.theory.Changes.{bits_high}
use Rattle.table_read.specs.Places.{basic_slot}
use Rattle.table_relabel.proofs.LabelLaws.{label_ends, label_within, relabelled_plain}
use Rattle.table_relabel.proofs.label.relabel_plain.Goals as goal

pub overflow_add-at : goal.overflow_add-at
overflow_add-at c =
    let g = c.args.g in
    omega (arith, label_ends c.requires.0 (c.basic_slot.result + g.bie) (omega (arith, c.basic_slot.ensures)) c.requires.1, bits_high g c.requires.0.table.proper)

pub put-requires-clause-within : goal.put-requires-clause-within
put-requires-clause-within c = label_within c.requires.0 _ (omega (arith, c.basic_slot.ensures)) c.requires.1

pub returns : goal.returns
unfolding basic_slot
returns c =
    relabelled_plain c.requires.0 (λ j. search rules) c.requires.1 (omega (arith, c.requires.2)) _ (omega (arith, c.basic_slot.ensures)) _ (rw c.from.ensures at c.put.ensures)
