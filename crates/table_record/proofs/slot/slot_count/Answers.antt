-- Both products are at most those of their bounds.
use borrow.Author.Rules.{rules}
use Rattle.table.specs.Numbers.{capacity}
use Rattle.table_record.proofs.slot.slot_count.Goals as goal

pub returns : goal.returns
unfolding capacity
returns c = search rules
