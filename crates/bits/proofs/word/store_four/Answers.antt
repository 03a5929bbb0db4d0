-- Four bytes put in the middle are the stores of `set_four` (`put_four`).
use Rattle.std.proofs.Common.{arith}
use Rattle.bits.specs.theory.Words.{put_four}
use Rattle.bits.proofs.word.store_four.Goals as goal

pub returns : goal.returns
returns c =
    let a = c.args in
    rw (c.copy_from_slice.ensures.after, c.to_le_bytes.ensures) (put_four a.s.now a.i a.x _ (omega arith) (omega arith))
