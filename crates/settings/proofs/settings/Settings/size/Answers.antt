-- What the layout's answer tells decides this one.
use Rattle.std.proofs.Common.{Err, Ok, sym, ap, ◌∙◌}
use Rattle.std.proofs.lemmas.Result.{err_from_is_err_and}
use Rattle.settings.specs.Layout.{layout_of}
use Rattle.settings.specs.Made.{size_of}
use Rattle.settings.specs.theory.Legal.{laid_layout, laid_refused}
use Rattle.settings.specs.declared.layout.Layout.{Layout}
use Rattle.settings.proofs.settings.Settings.size.Goals as goal

pub returns-in_err-g : goal.returns-in_err-g
unfolding size_of
returns-in_err-g c =
    let p = err_from_is_err_and c.from_residual.result c.from_residual.ensures.1 in
    let t = laid_refused _ _ (sym c.layout.ensures ∙ c.in_err-g.was) in
    rw (p.1, p.2, t.0) (ap Err (sym t.1))

pub returns : goal.returns
unfolding size_of layout_of
returns c =
    let t = laid_layout _ _ (sym c.layout.ensures ∙ c.in_ok-g.was) in
    rw t.0 (ap (λ (g : Layout). Ok g.bytes) (sym t.1))
