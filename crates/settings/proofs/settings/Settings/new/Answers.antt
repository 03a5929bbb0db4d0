-- What the layout's answer tells decides this one.
use Rattle.std.proofs.Common.{Err, refl, sym, ap, ◌∙◌}
use Rattle.std.proofs.lemmas.Result.{err_from_is_err_and}
use Rattle.settings.specs.Made.{made_of}
use Rattle.settings.specs.theory.Legal.{laid_layout, laid_refused}
use Rattle.settings.proofs.settings.Settings.new.Goals as goal

pub returns-in_err-layout : goal.returns-in_err-layout
unfolding made_of
returns-in_err-layout c =
    let p = err_from_is_err_and c.from_residual.result c.from_residual.ensures.1 in
    let t = laid_refused _ _ (sym c.layout.ensures ∙ c.in_err-layout.was) in
    rw (p.1, p.2, t.0) (ap Err (sym t.1))

pub returns : goal.returns
unfolding made_of
returns c =
    let t = laid_layout _ _ (sym c.layout.ensures ∙ c.in_ok-layout.was) in
    rw t.0 refl
