-- A call's answer as the plain set's: the word, its label and the refusal. `compared` and the slot's number are left out: they hang on the list and
-- the blocks that the bits hold.
use Rattle.std.specs.Prelude.{Ok, Err}
use Rattle.table.specs.Answer as table
use Rattle.plain_set.specs.Set.{Answer, said, refused}

abbrev pub plain : table.Answer → Answer
plain (Ok answer) = said answer.word answer.label
plain (Err why) = refused why
