-- The field is written in the word, where it starts after the first bits of one byte (`byte_and_bit`), or near the end.
use Rattle.bits.specs.theory.Words.{byte_and_bit}
use Rattle.bits.proofs.put_short.Goals as goal

pub returns : goal.returns
returns c = rw byte_and_bit at c.put-2.ensures
