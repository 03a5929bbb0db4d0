-- Nothing is due, or the last line's answer.
use mathlib.Core.Path.{sym, ◌∙◌}
use Prim.Native.Nat.{◌<◌}
use native.Mathlib.Omega.{arith}
use lib.ListN.{length}
use lib.Dec.{lit≤}
use Rattle.program_stream.specs.theory.Lines.{output_none, output_last, output_past}
use Rattle.program_stream.proofs.finish.Goals as goal

pub returns-then-skip : goal.returns-then-skip
returns-then-skip c =
    let a = c.args in
    record { room = lit≤ tt; says = λ h. rw c.if-skip.true (sym (output_past a.t.now a.input.now h)) }

pub returns-then-input-eq0 : goal.returns-then-input-eq0
returns-then-input-eq0 c =
    let a = c.args in
    record { room = lit≤ tt; says = λ h. rw c.if-skip.false (sym (output_none a.t.now a.input.now c.if-input-eq0.true)) }

pub returns : goal.returns
returns c =
    let p = c.answer_line in
    let a = c.args in
    let some : 0 < length a.input.now = omega (arith, c.if-input-eq0.false) in
    record {
      room = p.ensures.text.room;
      says = λ h. rw c.if-skip.false (p.ensures.text.is ∙ sym (output_last a.t.now a.input.now h some));
    }
