-- A field written within a byte changes that byte alone (`put_in`), which stays a byte (`replaced_lt`).
use Prim.Native.Nat.{ℕ, ◌-◌, ◌^◌, ◌<◌}
use mathlib.Core.Path.{◌≡◌, sym, ap, ◌∙◌}
use native.Mathlib.Nat.{mod-eq_of_lt}
use native.Mathlib.Omega.{arith}
use lib.ListN.{get_or, set}
use Rattle.bits.specs.Put.{replaced}
use Rattle.bits.specs.theory.Numbers.{replaced_lt}
use Rattle.bits.specs.theory.Puts.{put_in}
use Rattle.bits.proofs.byte.put.Goals as goal
use Rattle.bits.proofs.byte.put.Goals.{After-replace}

is : (c : After-replace) →
    let a = c.args in
    c.replace.result ≡ replaced (get_or a.s.now a.i 0) (8 - a.a - a.n) a.n a.v
is c =
    let a = c.args in
    c.replace.ensures ∙ ap (λ (x : ℕ). replaced x (8 - a.a - a.n) a.n a.v) c.from.ensures

pub overflow_cast-s : goal.overflow_cast-s
overflow_cast-s c =
    let a = c.args in
    omega (arith, is (goal.at.overflow_cast-s c).After-replace, replaced_lt (get_or a.s.now a.i 0) (8 - a.a - a.n) a.n {v = a.v} (omega arith) 8 (omega arith) (omega arith))

pub returns : goal.returns
returns c =
    let a = c.args in
    let h : a.v < 2 ^ a.n = omega arith in
    ap (set a.s.now a.i) (is (goal.at.returns c).After-replace)
    ∙ sym (rw (mod-eq_of_lt h) at (put_in a.s.now a.i a.a a.n (8 - a.a - a.n) a.v (omega arith) (omega arith)))
