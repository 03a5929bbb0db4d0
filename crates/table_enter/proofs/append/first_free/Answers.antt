-- Each answer is the definition's by the tests that led there.
use mathlib.Core.Path.{sym, ◌∙◌}
use native.Mathlib.Omega.{arith}
use Rattle.table.specs.Decode.{decode}
use Rattle.table_enter.proofs.FreeLaws.{free_high, free_none, free_bad, free_end, free_on}
use Rattle.table_enter.proofs.append.first_free.Goals as goal

pub free_start-f-requires : goal.free_start-f-requires
free_start-f-requires c = c.requires

pub returns-then-f-g : goal.returns-then-f-g
returns-then-f-g c =
    free_high c.args.g ((decode c.args.g c.args.t.now)) (omega (arith, c.free_start-f.ensures, c.if-f-g.true))

pub returns-then-f-g-2 : goal.returns-then-f-g-2
returns-then-f-g-2 c =
    free_none c.args.g ((decode c.args.g c.args.t.now)) (sym c.free_start-f.ensures ∙ c.if-f-g-2.true)

pub overflow_link-link-requires : goal.overflow_link-link-requires
overflow_link-link-requires c =
    (c.requires, omega (arith, c.if-f-g-2.false, c.if-f-g.false))

pub returns-then-link-g : goal.returns-then-link-g
returns-then-link-g c =
    free_bad c.args.g ((decode c.args.g c.args.t.now)) c.free_start-f.result.0 c.overflow_link-link.result
    c.free_start-f.ensures c.overflow_link-link.ensures
    (omega (arith, c.if-f-g-2.false, c.if-f-g.false)) c.if-link-g.true

pub returns-then-link-f : goal.returns-then-link-f
returns-then-link-f c =
    free_end c.args.g ((decode c.args.g c.args.t.now)) c.free_start-f.result.0 c.overflow_link-link.result
    c.free_start-f.ensures c.overflow_link-link.ensures
    (omega (arith, c.if-f-g-2.false, c.if-f-g.false)) c.if-link-g.false c.if-link-f.true

pub returns : goal.returns
returns c =
    free_on c.args.g ((decode c.args.g c.args.t.now)) c.free_start-f.result.0 c.overflow_link-link.result
    c.free_start-f.ensures c.overflow_link-link.ensures
    (omega (arith, c.if-f-g-2.false, c.if-f-g.false)) c.if-link-g.false c.if-link-f.false
