-- All but the bits in the last byte are written, and then these (`put_two`).
use Rattle.std.proofs.Common.{◌≡◌, ◌^◌, ◌<◌, ℕ, ◌+◌, ◌-◌, ◌%◌, ◌∙◌, arith}
use lib.Pow.{shr_lt}
use Rattle.bits.specs.theory.Words.{put_two}
use Rattle.bits.proofs.near_end.+put.Goals as goal

pub put-requires-2 : goal.put-requires-2
put-requires-2 t c =
    let a = c.args in
    let m : ℕ = (a.off % 8 + a.n - 1) % 8 + 1 in
    let e : a.n - m + m ≡ a.n = omega arith in
    let h : a.v < 2 ^ a.n = omega arith in
    (omega arith, (record { ends = omega arith; width = omega arith }, (omega arith, shr_lt (a.n - m) m (rw e h))))

pub returns : goal.returns
returns t c =
    let a = c.args in
    c.put-3.ensures
    ∙ rw (c.pow.ensures, c.put-2.ensures)
    (put_two a.s.now _ _ _ _ a.off a.n a.v (omega arith) (omega arith) (omega arith))
