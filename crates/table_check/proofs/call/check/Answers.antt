-- What the layout's answer tells decides this one.
use Rattle.std.proofs.Common.{sym, ◌∙◌}
use Rattle.std.proofs.lemmas.Result.{err_from_is_err_and}
use Rattle.settings.specs.theory.Legal.{legal_means, laid_layout, laid_refused}
use Rattle.settings.specs.theory.Proper.{layout_proper}
use Rattle.table_check.proofs.Answers.{check_legal, check_illegal}
use Rattle.table_check.proofs.call.check.Goals as goal

pub checked-requires : goal.checked-requires
checked-requires c =
    let t = laid_layout c.args.s _ (sym c.layout.ensures ∙ c.in_ok-g.was) in
    rw t.1 at (layout_proper c.args.s (legal_means c.args.s t.0))

pub returns : goal.returns
returns c =
    let t = laid_layout c.args.s _ (sym c.layout.ensures ∙ c.in_ok-g.was) in
    check_legal c.args.s c.args.t.now c.args.marks.now _ _ _ t.0 t.1 c.checked.ensures

pub returns-in_err-g : goal.returns-in_err-g
returns-in_err-g c =
    let p = err_from_is_err_and c.from_residual.result c.from_residual.ensures.1 in
    let t = laid_refused c.args.s _ (sym c.layout.ensures ∙ c.in_err-g.was) in
    rw (p.1, p.2, sym t.1) (check_illegal c.args.s c.args.t.now c.args.marks.now t.0)
