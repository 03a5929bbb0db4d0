-- The field is the word's: it starts in the word's first byte, so that at most 7 bits stand before it.
use Rattle.bits.specs.theory.Words.{byte_and_bit}
use Rattle.bits.proofs.get_inner.Goals as goal

pub returns : goal.returns
returns c = rw byte_and_bit at c.get.ensures
