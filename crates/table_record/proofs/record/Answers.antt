-- The layout's answer and the length decide the call's.
use Rattle.std.specs.Prelude.{Err}
use Rattle.std.proofs.lemmas.Result.{err_from_is_err_and}
use mathlib.Core.Path.{sym, ap, ◌∙◌}
use mathlib.Core.List.{[]}
use lib.ListN.{length}
use Rattle.settings.specs.theory.Legal.{legal_means, laid_layout, laid_refused}
use Rattle.settings.specs.declared.layout.Layout.{Layout}
use Rattle.table.specs.Decode.{decode}
use Rattle.table.specs.Record.{record_in}
use Rattle.table.specs.Calls.{record_call}
use Rattle.table.specs.theory.Opened.{due_settings, due_short, due_later, opened_table}
use Rattle.table_record.proofs.record.Goals as goal

pub returns-then-t-g : goal.returns-then-t-g
unfolding record_call
returns-then-t-g c =
    let means = laid_layout c.args.s c.in_ok-g.g (sym c.layout.ensures ∙ c.in_ok-g.was) in
    let a = c.args in
    sym (due_short Err a.s (length a.t.now) [] _ c.in_ok-g.g means.0 means.1 c.if-t-g.true)

pub record_in-requires : goal.record_in-requires
record_in-requires c =
    let means = laid_layout c.args.s c.in_ok-g.g (sym c.layout.ensures ∙ c.in_ok-g.was) in
    let a = c.args in
    record {
      legal = legal_means a.s means.0;
      laid = means.1;
      table = opened_table a.s c.in_ok-g.g means.0 means.1 a.t.now c.if-t-g.false;
    }

pub returns : goal.returns
unfolding record_call
returns c =
    let means = laid_layout c.args.s c.in_ok-g.g (sym c.layout.ensures ∙ c.in_ok-g.was) in
    let a = c.args in
    c.record_in.ensures
    ∙ ap (λ (x : Layout). record_in a.s (decode x a.t.now) a.n) (sym means.1)
    ∙ sym (due_later Err a.s (length a.t.now) [] _ c.in_ok-g.g means.0 means.1 c.if-t-g.false)

pub returns-in_err-g : goal.returns-in_err-g
unfolding record_call
returns-in_err-g c =
    let a = c.args in
    let p = err_from_is_err_and c.from_residual.result c.from_residual.ensures.1 in
    let e = laid_refused a.s _ (sym c.layout.ensures ∙ c.in_err-g.was) in
    rw (p.1, p.2) (ap Err (sym e.1) ∙ sym (due_settings Err a.s (length a.t.now) [] _ e.0))
