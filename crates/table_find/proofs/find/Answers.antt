-- A table that is opened for the key answers as its list does; any other is refused.
use Rattle.std.proofs.Common.{◌≡◌, Ok, length, sym, ap, ◌∙◌}
use Rattle.std.proofs.lemmas.Result.{err_from_is_err_and}
use Rattle.settings.specs.Reply.{Reply}
use Rattle.table.specs.Calls.{find}
use Rattle.table.specs.Answer.{Answer}
use Rattle.table_find.specs.Seek.{open_of, laid_if}
use Rattle.table_find.specs.theory.Seeks.{open_illegal, open_refused, found_call}
use Rattle.table_find.specs.theory.SoughtLaws.{placed_at}
use Rattle.table_find.proofs.find.Goals as goal
use Rattle.table_find.proofs.find.Goals.{In_ok-admit}

-- the table is opened for the key
opened : (c : In_ok-admit) → let a = c.args in open_of a.s (length a.t.now) a.key ≡ Ok c.in_ok-g.g
opened c = sym c.admit.ensures ∙ ap (laid_if c.in_ok-g.g) c.in_ok-admit.was

pub admit-requires : goal.admit-requires
admit-requires c = sym c.layout.ensures ∙ c.in_ok-g.was

pub place-place-requires : goal.place-place-requires
place-place-requires c =
    let a = c.args in
    (placed_at a.s a.key a.t.now (opened (goal.at.place-place-requires c).In_ok-admit)).place

pub find_in-requires : goal.find_in-requires
find_in-requires c =
    let a = c.args in
    rw c.place-place.ensures (placed_at a.s a.key a.t.now (opened (goal.at.find_in-requires c).In_ok-admit)).find

pub returns : goal.returns
returns c =
    let a = c.args in
    let o = opened (goal.at.returns c).In_ok-admit in
    c.find_in.ensures ∙ rw c.place-place.ensures (placed_at a.s a.key a.t.now o).found_is ∙ found_call a.s a.key a.t.now o

pub returns-in_err-admit : goal.returns-in_err-admit
returns-in_err-admit c =
    let a = c.args in
    let p = err_from_is_err_and c.from_residual-in_err-admit.result c.from_residual-in_err-admit.ensures.1 in
    let o = sym c.admit.ensures ∙ ap (laid_if c.in_ok-g.g) c.in_err-admit.was in
    rw (p.1, p.2) (sym (ap (λ (o : Reply Answer). o.answer) (open_refused a.s a.key a.t.now find _ o)))

pub returns-in_err-g : goal.returns-in_err-g
returns-in_err-g c =
    let a = c.args in
    let p = err_from_is_err_and c.from_residual.result c.from_residual.ensures.1 in
    let e = sym c.layout.ensures ∙ c.in_err-g.was in
    rw (p.1, p.2)
    (sym (ap (λ (o : Reply Answer). o.answer) (open_refused a.s a.key a.t.now find _ (open_illegal a.s a.key (length a.t.now) _ e))))
