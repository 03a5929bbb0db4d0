-- The list's end has the displaced bits; what stands behind them is read as it stands.
use mathlib.Core.Path.{refl, sym, ◌∙◌}
use native.Mathlib.Omega.{arith}
use Rattle.std.proofs.lemmas.Result.{err_from_is_err_and}
use Rattle.table.specs.Decode.{decode}
use Rattle.table_read.specs.theory.Lasts.{ends_at, no_end}
use Rattle.table_read.specs.theory.Walks.{content_high}
use Rattle.table_record.proofs.Records.{goes_on, list_unended}
use Rattle.table_record.proofs.Retrievals.{LongRow, basic_damaged, long_row, long_under, long_slot}
use Rattle.table_record.proofs.slot.in_long.Goals as goal
use Rattle.table_record.proofs.slot.in_long.Goals.{After-displaced_run-run}

pub returns-then-count-g : goal.returns-then-count-g
returns-then-count-g c =
    basic_damaged c.args.g c.args.t.now c.requires.0 c.args.i c.requires.1 c.args.p
    (content_high c.args.g (decode c.args.g c.args.t.now) c.args.i.0 (omega (arith, c.requires.3, c.if-count-g.true)))

pub returns-in_err-last : goal.returns-in_err-last
returns-in_err-last c =
    let over = goes_on c.args.g (decode c.args.g c.args.t.now) c.args.i.0 _ _ c.requires.3 c.basic_head.ensures c.requires.4 c.if-count-g.false in
    rw ((err_from_is_err_and c.from_residual.result c.from_residual.ensures.1).1)
    (basic_damaged c.args.g c.args.t.now c.requires.0 c.args.i c.requires.1 c.args.p
    (list_unended c.args.g c.args.t.now c.requires.0 c.args.i.0 c.requires.1 c.basic_head.result _ over refl
    (no_end c.args.g _ (sym c.follow.ensures ∙ c.in_err-last.was))))

pub overflow_link-requires : goal.overflow_link-requires
overflow_link-requires c =
    (c.requires.0, (ends_at _ _ _ (sym c.follow.ensures ∙ c.in_ok-last.was)).low)

-- the basic block's slots, behind the displaced bits
row : (r : After-displaced_run-run) → LongRow r.args.g r.args.t.now r.requires.0 r.args.i r.requires.1 r.args.p r.displaced_run-run.result
row r =
    let over = goes_on r.args.g (decode r.args.g r.args.t.now) r.args.i.0 _ _ r.requires.3 r.basic_head.ensures r.requires.4 r.if-count-g.false in
    let end = ends_at _ _ _ (sym r.follow.ensures ∙ r.in_ok-last.was) in
    long_row r.args.g r.args.t.now r.requires.0 r.args.i r.requires.1 r.args.p r.displaced_run-run.result r.basic_head.result
    r.in_ok-last.last.0 over end.is end.low r.requires.2 r.overflow_link.result r.overflow_link.ensures r.displaced_run-run.ensures

pub overflow_add-run : goal.overflow_add-run
overflow_add-run c =
    omega (arith, (row (goal.at.overflow_add-run c).After-displaced_run-run).within.near, c.requires.0.proper.link_high)

pub returns-then-at-run : goal.returns-then-at-run
returns-then-at-run c =
    long_under c.args.g c.args.t.now c.requires.0 c.args.i c.requires.1 c.args.p c.displaced_run-run.result (row (goal.at.returns-then-at-run c).After-displaced_run-run)

pub returns : goal.returns
returns c =
    long_slot c.args.g c.args.t.now c.requires.0 c.args.i c.requires.1 c.args.p c.displaced_run-run.result (row (goal.at.returns c).After-displaced_run-run)
    c.basic_slot-at.result c.basic_slot-at.ensures (omega (arith, c.if-at-run.false))
