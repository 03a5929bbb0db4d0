-- Within one word it is written there. Past it, its bits there and then the first bits of the ninth byte (`put_cat`).
use Prim.Native.Nat.{ℕ, ◌+◌, ◌-◌, ◌%◌}
use mathlib.Core.Path.{◌≡◌, sym, ap, ◌∙◌}
use native.Mathlib.Nat.{mod-lt}
use native.Mathlib.Omega.{arith}
use lib.Pow.{pow_pos, shr_lt}
use Rattle.bits.specs.Put.{put_field}
use Rattle.bits.specs.theory.Puts.{put_zero}
use Rattle.bits.specs.theory.Words.{put_two, byte_and_bit}
use Rattle.bits.proofs.put.Goals as goal

pub returns-then-n-eq0 : goal.returns-then-n-eq0
returns-then-n-eq0 c =
    let a = c.args in
    sym (ap (λ (m : ℕ). put_field a.s.now a.off m a.v) c.if-n-eq0.true ∙ put_zero a.s.now a.off a.v)

pub returns-then-a-n-le64 : goal.returns-then-a-n-le64
returns-then-a-n-le64 c = rw byte_and_bit at c.put-then-a-n-le64.ensures

pub put-requires-2 : goal.put-requires-2
put-requires-2 c =
    let a = c.args in
    let t : ℕ = a.off % 8 + a.n - 64 in
    let e : 64 - a.off % 8 + (a.off % 8 + a.n - 64) ≡ a.n = omega arith in
    (omega arith, omega arith, omega arith, shr_lt (64 - a.off % 8) t (rw e c.requires.v_bound))

pub nonzero_rem-v : goal.nonzero_rem-v
nonzero_rem-v c = rw c.pow.ensures (pow_pos _)

pub put-requires-3 : goal.put-requires-3
put-requires-3 c = (omega arith, omega arith, omega arith, rw c.pow.ensures (mod-lt _ (pow_pos _)))

pub returns : goal.returns
returns c =
    let a = c.args in
    c.put-3.ensures
    ∙ rw (c.pow.ensures, c.put-2.ensures)
    (put_two a.s.now _ _ _ _ a.off a.n a.v (omega arith) (omega arith) (omega arith))
