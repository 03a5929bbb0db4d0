-- What was admitted decides: the call with the key, or its refusal, which leaves every byte.
use Rattle.std.proofs.Common.{◌≡◌, Ok, length, refl, sym, ◌∙◌}
use Rattle.std.proofs.lemmas.Result.{err_from_is_err_and}
use Rattle.table.specs.Calls.{delete}
use Rattle.table_find.specs.Seek.{open_of}
use Rattle.table_find.specs.theory.SoughtLaws.{placed_at, sought_as}
use Rattle.text_calls.specs.theory.TextCalls.{admitted_open, admitted_illegal, admitted_key, admitted_refused}
use Rattle.text_calls.proofs.calls.delete_read.Goals as goal
use Rattle.text_calls.proofs.calls.delete_read.Goals.{In_ok-key}

-- a key was admitted: the table is opened for it
open_at : (c : In_ok-key) → let a = c.args in open_of a.s (length a.t.now) c.in_ok-key.key ≡ Ok c.in_ok-g.g
open_at c =
    let a = c.args in
    admitted_open a.s a.t.now a.text.now (sym c.layout.ensures ∙ c.in_ok-g.was) (sym c.admit.ensures ∙ c.in_ok-key.was)

pub place-place-requires : goal.place-place-requires
place-place-requires c =
    let a = c.args in
    (placed_at a.s c.in_ok-key.key a.t.now (open_at (goal.at.place-place-requires c).In_ok-key)).place

pub find_in-found-requires : goal.find_in-found-requires
find_in-found-requires c =
    let a = c.args in
    rw c.place-place.ensures (placed_at a.s c.in_ok-key.key a.t.now (open_at (goal.at.find_in-found-requires c).In_ok-key)).find

pub delete_sought-answer-requires : goal.delete_sought-answer-requires
delete_sought-answer-requires c =
    let a = c.args in
    let o = open_at (goal.at.delete_sought-answer-requires c).In_ok-key in
    (o, sought_as a.s c.in_ok-key.key a.t.now o c.place-place.result c.find_in-found.result c.place-place.ensures c.find_in-found.ensures)

pub returns : goal.returns
returns c =
    let a = c.args in
    admitted_key a.s a.t.now a.text.now delete (sym c.admit.ensures ∙ c.in_ok-key.was) c.delete_sought-answer.ensures

pub returns-in_err-key : goal.returns-in_err-key
returns-in_err-key c =
    let a = c.args in
    let p = err_from_is_err_and c.from_residual-in_err-key.result c.from_residual-in_err-key.ensures.1 in
    rw (p.1, p.2) (admitted_refused a.s a.t.now a.text.now delete (sym c.admit.ensures ∙ c.in_err-key.was) refl)

pub returns-in_err-g : goal.returns-in_err-g
returns-in_err-g c =
    let a = c.args in
    let p = err_from_is_err_and c.from_residual.result c.from_residual.ensures.1 in
    rw (p.1, p.2)
    (admitted_refused a.s a.t.now a.text.now delete
    (admitted_illegal a.s a.t.now a.text.now _ (sym c.layout.ensures ∙ c.in_err-g.was)) refl)
