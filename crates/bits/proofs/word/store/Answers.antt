-- Eight bytes put in the middle, the highest first, are the field of 64 bits written (`put_word`).
use Rattle.std.proofs.Common.{arith}
use Rattle.bits.specs.theory.Words.{put_word}
use Rattle.bits.proofs.word.store.Goals as goal

pub returns : goal.returns
returns c =
    let a = c.args in
    rw (c.copy_from_slice.ensures.after, c.to_be_bytes.ensures) (put_word a.s.now a.i (λ j. omega (arith, c.slice_known-1.given j)) a.w _ (omega arith) (omega arith))
