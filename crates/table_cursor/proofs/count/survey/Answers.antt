-- The lists before list i are whole and have count entries, and record n, if it is one of theirs, is entry skip of `list`.
use mathlib.Core.Path.{◌≡◌, sym, ◌∙◌}
use native.Mathlib.Omega.{arith}
use Rattle.std.specs.Prelude.{Ok}
use Rattle.std.proofs.lemmas.Result.{err_from_is_err_and}
use Rattle.table.specs.Decode.{decode}
use Rattle.table.specs.Follow.{content}
use Rattle.table_cursor.specs.Survey.{list_length}
use Rattle.table_cursor.specs.theory.Undamaged.{damaged_test}
use Rattle.table_cursor.proofs.LengthLaws.{list_few}
use Rattle.table_cursor.proofs.SurveyLaws.{damaged_none, passed_none, stands_first, passed_on, stands_here, stands_still, all_passed}
use Rattle.table_cursor.proofs.count.survey.Goals as goal
use Rattle.table_cursor.proofs.count.survey.Goals.{then-count-n, else-count-n}

pub loop-i-init : goal.loop-i-init
loop-i-init c = (passed_none c.args.g c.args.t.now c.requires, stands_first c.args.g c.args.t.now c.requires c.args.n)

pub returns-in_err-k : goal.returns-in_err-k
returns-in_err-k c =
    rw ((err_from_is_err_and c.from_residual.result c.from_residual.ensures.1).1)
    (damaged_test c.args.g c.args.t.now c.loop-i.i c.loop-i-test.true
    (damaged_none (content c.args.g (decode c.args.g c.args.t.now) c.loop-i.i) (sym c.list_length.ensures ∙ c.in_err-k.was)))

pub overflow_add-more : goal.overflow_add-more
overflow_add-more c =
    omega (arith, c.requires.proper.lists_high, c.loop-i.invariant.0.within, c.loop-i.invariant.0.few, list_few c.args.g c.args.t.now c.requires c.loop-i.i _ (sym c.list_length.ensures ∙ c.in_ok-k.was))

pub loop-i-preserved : goal.loop-i-preserved
loop-i-preserved c =
    let g = c.args.g in
    let t = c.args.t.now in
    let low = c.loop-i-test.true in
    let x = c.in_ok-k.k in
    let P = c.loop-i.invariant.0 in
    let e : list_length (content g (decode g t) c.loop-i.i) ≡ Ok x = sym c.list_length.ensures ∙ c.in_ok-k.was in (
      passed_on g t c.requires c.loop-i.count c.loop-i.i x P low e,
      elim c.if-count-n.branch [
        | then-count-n y ↦ stands_here g t c.requires c.loop-i.count c.loop-i.i x P low e c.args.n c.if-count-n.list c.if-count-n.skip y.if-count-n.true y.list-is y.skip-is
        | else-count-n z ↦ stands_still g t c.requires c.loop-i.count c.loop-i.i x P low e c.args.n c.if-count-n.list c.if-count-n.skip c.loop-i.list c.loop-i.skip c.loop-i.invariant.1 z.if-count-n.false z.list-is z.skip-is
      ],
    )

pub returns : goal.returns
returns c =
    all_passed c.args.g c.args.t.now c.requires c.args.n c.loop-i.count c.loop-i.i c.loop-i.list c.loop-i.skip c.at.result
    c.loop-i.invariant.0 c.loop-i.invariant.1 c.loop-i-test.false c.at.ensures
