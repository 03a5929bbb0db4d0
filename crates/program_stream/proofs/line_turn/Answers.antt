-- Each way is a law of `Turns`, at what its test and its callee say.
use native.Mathlib.Omega.{arith}
use Rattle.program_lines.specs.Ends.{line_feed}
use Rattle.program_lines.specs.theory.Ends.{span_line, first_after}
use Rattle.program_stream.proofs.Turns.{turned_line, turned_past}
use Rattle.program_stream.proofs.line_turn.Goals as goal
use Rattle.program_stream.proofs.line_turn.Goals.{then-p, else-p}

pub answer_part-made-requires-clause-at_le_e : goal.answer_part-made-requires-clause-at_le_e
answer_part-made-requires-clause-at_le_e c =
    let h = span_line _ _ _ c.requires.at_in_bounds.1 in
    (omega (arith, h, first_after line_feed c.args.input.now c.args.p.at), omega (arith, h))

pub overflow_add-result : goal.overflow_add-result
overflow_add-result c =
    omega (arith, span_line _ _ _ c.requires.at_in_bounds.1)

pub returns : goal.returns
returns c =
    let a = c.args in
    let r = c.requires.at_in_bounds in
    elim c.if-p.branch [
      | then-p w ↦ rw (w.t-is, w.out-is, w.made-is) (turned_past a.input.now a.p a.t.now a.out.now r.0 a.e r.1 w.if-p.true)
      | else-p w ↦
          let e = w.answer_part-made.ensures in
          rw (w.t-is, w.out-is, w.made-is)
          (turned_line a.input.now a.p a.t.now a.out.now r.0 a.e r.1 _ _ w.answer_part-made.result w.if-p.false e.upper_bound e.t_after e.out_after)
    ]
