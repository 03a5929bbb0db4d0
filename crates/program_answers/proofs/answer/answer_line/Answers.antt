-- A line is no command, or its address is read, or it is not.
use mathlib.Core.Path.{sym, ◌∙◌}
use native.Mathlib.Omega.{arith}
use Rattle.program_commands.specs.theory.Spaces.{read_spaceless}
use Rattle.program_answers.specs.theory.Lines.{asks_request, asks_none, line_none, line_key, line_unread}
use Rattle.program_answers.proofs.Puts.{answered_as, answered_refused}
use Rattle.program_answers.proofs.answer.answer_line.Goals as goal
use Rattle.program_answers.proofs.answer.answer_line.Goals.{Start}

pub returns-in_default : goal.returns-in_default
returns-in_default c =
    let a = c.args in
    answered_refused _ (line_none a.t.now a.line.now (asks_none a.line.now c.parse.ensures c.in_default.is)) c.refuse.ensures.0

pub returns-in-Ok : goal.returns-in-Ok
returns-in-Ok c =
    let e = sym c.read.ensures ∙ c.in-Ok.is in
    answered_as (line_key c.args.t.now c.args.line.now c.in-Some.q (asks_request c.args.line.now c.in-Some.q c.parse.ensures c.in-Some.is).is (omega (arith, (goal.at.returns-in-Ok c).Start)) c.in-Ok.key e (read_spaceless _ _ e)) c.answer_key.ensures

pub returns-in-Err : goal.returns-in-Err
returns-in-Err c =
    answered_refused _
    (line_unread c.args.t.now c.args.line.now c.in-Some.q (asks_request c.args.line.now c.in-Some.q c.parse.ensures c.in-Some.is).is (omega (arith, (goal.at.returns-in-Err c).Start)) c.in-Err.field-0 (sym c.read.ensures ∙ c.in-Err.is))
    (rw c.unread.ensures at c.refuse-in-Err.ensures.0)
