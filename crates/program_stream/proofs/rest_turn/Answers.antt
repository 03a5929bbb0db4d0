-- Each way is a law of `Turns`, at what its tests and its callee say.
use native.Mathlib.Omega.{arith}
use Rattle.program_stream.proofs.Turns.{turned_past_rest, turned_long, turned_short}
use Rattle.program_stream.proofs.rest_turn.Goals as goal

pub returns-then-p : goal.returns-then-p
returns-then-p c t =
    let a = c.args in
    turned_past_rest a.input.now a.p t a.out.now c.requires.0 c.requires.1 c.if-p.true

pub returns-then-input-at-gt-LINE_MAX : goal.returns-then-input-at-gt-LINE_MAX
returns-then-input-at-gt-LINE_MAX c t =
    let a = c.args in
    let e = c.refuse_part.ensures in
    turned_long a.input.now a.p t a.out.now c.requires.0 c.requires.1
    _ c.refuse_part.result c.if-p.false (omega (arith, c.if-input-at-gt-LINE_MAX.true)) e.upper_bound e.out_after

pub returns : goal.returns
returns c t =
    let a = c.args in
    turned_short a.input.now a.p t a.out.now c.requires.0 c.requires.1 c.if-p.false (omega (arith, c.if-input-at-gt-LINE_MAX.false))
