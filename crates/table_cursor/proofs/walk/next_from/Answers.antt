-- The lists that were passed have no pairs.
use mathlib.Core.Path.{◌∙◌}
use native.Mathlib.Omega.{arith}
use Rattle.table_cursor.specs.Ahead.{pairs_from}
use Rattle.table_cursor.proofs.Move.{reaches_at, reaches_end, pairs_begins, pairs_empty, pairs_over}
use Rattle.table_cursor.proofs.walk.next_from.Goals as goal

pub returns-then-c-gt0 : goal.returns-then-c-gt0
returns-then-c-gt0 c =
    let g = c.args.g in
    let t = c.args.t.now in
    reaches_at g t (λ s. pairs_from s t c.args.i) c.enter-c.result c.enter-c.ensures.good (omega (arith, c.enter-c.ensures.passed, c.if-c-gt0.true))
    (λ s e. c.loop-j.invariant s e ∙ pairs_begins g t c.loop-j.j c.loop-j-test.true c.enter-c.result c.enter-c.ensures s e)

pub loop-j-preserved : goal.loop-j-preserved
loop-j-preserved c =
    λ s e. c.loop-j.invariant s e
    ∙ pairs_empty c.args.g c.args.t.now c.loop-j.j c.loop-j-test.true c.enter-c.result c.enter-c.ensures (omega (arith, c.if-c-gt0.false)) _ (omega arith) s e

pub returns : goal.returns
returns c =
    let t = c.args.t.now in
    reaches_end c.args.g t (λ s. pairs_from s t c.args.i) _ (omega arith)
    record { are = λ s e. c.loop-j.invariant s e ∙ (pairs_over c.args.g t c.loop-j.j c.loop-j-test.false).are s e }
