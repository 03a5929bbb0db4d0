-- What was admitted decides: the call with the key, or its refusal.
use Rattle.std.proofs.Common.{◌≡◌, Ok, length, sym, ap, ◌∙◌}
use Rattle.std.proofs.lemmas.Result.{err_from_is_err_and}
use Rattle.settings.specs.Reply.{Reply}
use Rattle.table.specs.Calls.{find}
use Rattle.table_find.specs.Seek.{open_of}
use Rattle.table_find.specs.theory.Seeks.{found_call}
use Rattle.table_find.specs.theory.SoughtLaws.{placed_at, sought_as}
use Rattle.table_find.specs.declared.Sought.{Sought}
use Rattle.text_calls.specs.declared.calls.TextAnswer.{TextAnswer}
use Rattle.text_calls.specs.TextCalls.{for_key}
use Rattle.text_calls.specs.theory.TextCalls.{admitted_open, admitted_illegal, admitted_call}
use Rattle.text_calls.proofs.calls.find_read.Goals as goal
use Rattle.text_calls.proofs.calls.find_read.Goals.{In_ok-key}

-- a key was admitted: the table is opened for it
open_at : (c : In_ok-key) → let a = c.args in open_of a.s (length a.t.now) c.in_ok-key.key ≡ Ok c.in_ok-g.g
open_at c =
    let a = c.args in
    admitted_open a.s a.t.now a.text.now (sym c.layout.ensures ∙ c.in_ok-g.was) (sym c.admit.ensures ∙ c.in_ok-key.was)

pub place-place-requires : goal.place-place-requires
place-place-requires c =
    let a = c.args in
    (placed_at a.s c.in_ok-key.key a.t.now (open_at (goal.at.place-place-requires c).In_ok-key)).place

pub find_in-answer-requires : goal.find_in-answer-requires
find_in-answer-requires c =
    let a = c.args in
    rw c.place-place.ensures (placed_at a.s c.in_ok-key.key a.t.now (open_at (goal.at.find_in-answer-requires c).In_ok-key)).find

pub returns : goal.returns
returns c =
    let a = c.args in
    let k = c.in_ok-key.key in
    let o = open_at (goal.at.returns c).In_ok-key in
    ap (for_key k)
    (ap (λ (v : Sought). v.found) (sought_as a.s k a.t.now o c.place-place.result c.find_in-answer.result c.place-place.ensures c.find_in-answer.ensures)
    ∙ found_call a.s k a.t.now o)
    ∙ sym (ap (λ (o : Reply TextAnswer). o.answer) (admitted_call a.s a.t.now a.text.now find _ (sym c.admit.ensures ∙ c.in_ok-key.was)))

pub returns-in_err-key : goal.returns-in_err-key
returns-in_err-key c =
    let a = c.args in
    let p = err_from_is_err_and c.from_residual-in_err-key.result c.from_residual-in_err-key.ensures.1 in
    rw (p.1, p.2)
    (sym (ap (λ (o : Reply TextAnswer). o.answer) (admitted_call a.s a.t.now a.text.now find _ (sym c.admit.ensures ∙ c.in_err-key.was))))

pub returns-in_err-g : goal.returns-in_err-g
returns-in_err-g c =
    let a = c.args in
    let p = err_from_is_err_and c.from_residual.result c.from_residual.ensures.1 in
    let e = admitted_illegal a.s a.t.now a.text.now _ (sym c.layout.ensures ∙ c.in_err-g.was) in
    rw (p.1, p.2) (sym (ap (λ (o : Reply TextAnswer). o.answer) (admitted_call a.s a.t.now a.text.now find _ e)))
