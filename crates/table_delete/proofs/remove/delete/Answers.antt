-- The table opened for the key, and the key sought; where a refusal comes first, it is the answer, and every byte stays.
use mathlib.Core.Path.{◌≡◌, refl, sym, ap, ◌∙◌}
use lib.ListN.{length}
use Rattle.std.specs.Prelude.{Ok}
use Rattle.std.proofs.lemmas.Result.{err_from_is_err_and}
use Rattle.table.specs.Calls.{delete}
use Rattle.table_find.specs.Seek.{open_of, laid_if}
use Rattle.table_find.specs.theory.Seeks.{open_illegal, open_refused}
use Rattle.table_find.specs.theory.SoughtLaws.{placed_at, sought_as}
use Rattle.table_delete.proofs.remove.delete.Goals as goal
use Rattle.table_delete.proofs.remove.delete.Goals.{In_ok-admit}

-- the table is opened for the key
opened : (c : In_ok-admit) → let a = c.args in open_of a.s (length a.t.now) a.key ≡ Ok c.in_ok-g.g
opened c = sym c.admit.ensures ∙ ap (laid_if c.in_ok-g.g) c.in_ok-admit.was

pub admit-requires : goal.admit-requires
admit-requires c = sym c.layout.ensures ∙ c.in_ok-g.was

pub place-place-requires : goal.place-place-requires
place-place-requires c =
    let a = c.args in
    (placed_at a.s a.key a.t.now (opened (goal.at.place-place-requires c).In_ok-admit)).place

pub find_in-found-requires : goal.find_in-found-requires
find_in-found-requires c =
    let a = c.args in
    rw c.place-place.ensures (placed_at a.s a.key a.t.now (opened (goal.at.find_in-found-requires c).In_ok-admit)).find

pub delete_sought-requires : goal.delete_sought-requires
delete_sought-requires c =
    let a = c.args in
    let o = opened (goal.at.delete_sought-requires c).In_ok-admit in
    (o, sought_as a.s a.key a.t.now o c.place-place.result c.find_in-found.result c.place-place.ensures c.find_in-found.ensures)

pub returns-in_err-admit : goal.returns-in_err-admit
returns-in_err-admit c =
    let a = c.args in
    let p = err_from_is_err_and c.from_residual-in_err-admit.result c.from_residual-in_err-admit.ensures.1 in
    let o = sym c.admit.ensures ∙ ap (laid_if c.in_ok-g.g) c.in_err-admit.was in
    rw (p.1, p.2, open_refused a.s a.key a.t.now delete _ o) (record { answer = refl; bytes = refl })

pub returns-in_err-g : goal.returns-in_err-g
returns-in_err-g c =
    let a = c.args in
    let p = err_from_is_err_and c.from_residual.result c.from_residual.ensures.1 in
    let e = sym c.layout.ensures ∙ c.in_err-g.was in
    rw (p.1, p.2, open_refused a.s a.key a.t.now delete _ (open_illegal a.s a.key (length a.t.now) _ e))
    (record { answer = refl; bytes = refl })
