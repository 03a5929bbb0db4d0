-- The label's bits are those that the shift leaves free.
use Rattle.table_store.specs.theory.StoreLaws.{low_word}
use Rattle.table_store.proofs.slots.below.Goals as goal

pub overflow_add-result : goal.overflow_add-result
overflow_add-result c = record { fits = rw c.from.ensures (low_word c.args.val c.requires.0 c.args.low c.args.label c.requires.1) }
