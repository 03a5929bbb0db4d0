use mathlib.Core.Path.{◌≡◌, sym}
use mathlib.Core.List.{[]}
use Prim.Native.Nat.{◌+◌, ◌*◌, ◌-◌, ◌≤◌}
use native.Mathlib.Omega.{arith}
use lib.ListN.{length, drop, length-drop, drop_of_length-le}
use lib.Pow.{pow_mono}
use Rattle.text_write.specs.WriterSteps.{key_groups, run_marks}
use Rattle.text_write.proofs.Groups.{eight}
use Rattle.text_write.proofs.Marks.{marks_lt, marks_step}
use Rattle.text_write.proofs.writer.zero_groups.Goals as goal

pub loop-i-init : goal.loop-i-init
unfolding run_marks
loop-i-init c =
    let g = key_groups c.args.key in
    let d : drop 8 g ≡ [] = drop_of_length-le g {i = 8} (omega (arith, eight c.args.key)) in
    (omega arith, rw d)

pub loop-i-preserved : goal.loop-i-preserved
loop-i-preserved c =
    let k = c.args.key in
    let g = key_groups k in
    let i = c.loop-i.i - 1 in
    let e : c.loop-i.i ≡ i + 1 = omega arith in
    let m : c.loop-i.marks * 2 + c.from.result ≡ run_marks 1 (drop i g) =
    rw (c.from.ensures, c.group_at.ensures, c.loop-i.invariant.1) (sym (marks_step g i c.loop-i.i e (omega (arith, eight k))))
    in
    let p : length (drop i g) ≤ 8 = omega (arith, length-drop i g, eight k) in
    let q = pow_mono p in
    (omega (arith, m, marks_lt 1 (drop i g)), m)
