-- The place picks the half and the shift: `group_high`, `group_low`.
use mathlib.Core.Path.{◌≡◌}
use Prim.Native.Nat.{◌-◌, ◌*◌, ◌%◌}
use native.Mathlib.Omega.{arith}
use Rattle.text_write.proofs.Groups.{group_high, group_low}
use Rattle.text_write.proofs.writer.group_at.Goals as goal
use Rattle.text_write.proofs.writer.group_at.Goals.{then-i-lt4, else-i-lt4}

pub returns : goal.returns
returns c =
    let k = c.args.key in
    let i = c.args.i in
    elim c.if-i-lt4.branch [
      | then-i-lt4 w ↦
          let e : i % 4 ≡ i = omega (arith, w.if-i-lt4.true) in
          rw (w.half-is, e) (group_high k i w.if-i-lt4.true (omega arith))
      | else-i-lt4 w ↦
          let e : 48 - 16 * (i % 4) ≡ 112 - 16 * i = omega (arith, w.if-i-lt4.false, c.requires) in
          rw (w.half-is, e) (group_low k i w.if-i-lt4.false c.requires (omega arith))
    ]
