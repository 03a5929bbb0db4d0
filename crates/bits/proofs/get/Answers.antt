-- Within one word the field is the word's. Past it, its bits there and the first bits of the ninth byte make it up (`field_cat`).
use Prim.Native.Nat.{◌+◌, ◌-◌, ◌*◌, ◌%◌, ◌^◌}
use mathlib.Core.Path.{◌≡◌, sym, ap, ◌∙◌}
use native.Mathlib.Omega.{arith}
use Rattle.bits.specs.Field.{field}
use Rattle.bits.specs.theory.Fields.{field_zero, field_fits}
use Rattle.bits.specs.theory.Words.{field_two, byte_and_bit}
use Rattle.bits.proofs.get.Goals as goal
use Rattle.bits.proofs.get.Goals.{After-get-3}

pub returns-then-n-eq0 : goal.returns-then-n-eq0
returns-then-n-eq0 c =
    let a = c.args in
    sym (ap (field a.s.now a.off) c.if-n-eq0.true ∙ field_zero a.s.now a.off)

pub returns-then-a-n-le64 : goal.returns-then-a-n-le64
returns-then-a-n-le64 c = rw byte_and_bit at c.get-then-a-n-le64.ensures

whole : (c : After-get-3) →
    let a = c.args in
    c.get-2.result * 2 ^ (a.off % 8 + a.n - 64) + c.get-3.result ≡ field a.s.now a.off a.n
whole c =
    let a = c.args in
    rw (c.get-2.ensures, c.get-3.ensures)
    (field_two a.s.now _ _ _ _ a.off a.n (omega arith) (omega arith) (omega arith))

pub join-requires : goal.join-requires
join-requires c =
    let a = c.args in
    (omega arith, rw (whole (goal.at.join-requires c).After-get-3) (field_fits a.s.now a.off a.n 64 (omega arith)))

pub returns : goal.returns
returns c = c.join.ensures ∙ whole (goal.at.returns c).After-get-3
