-- The table opened for the key, and the key sought; where a refusal comes first, it is the answer, and every byte stays.
use mathlib.Core.Path.{◌≡◌, refl, sym, ap, ◌∙◌}
use Prim.Native.Nat.{◌^◌}
use lib.ListN.{length}
use borrow.Author.Tests.{ltb-true}
use Rattle.std.specs.Prelude.{Ok}
use Rattle.std.proofs.lemmas.Result.{err_from_is_err_and}
use Rattle.table.specs.Calls.{relabel}
use Rattle.table_find.specs.Seek.{open_of, laid_if}
use Rattle.table_find.specs.theory.Seeks.{open_means, open_illegal, open_refused}
use Rattle.table_find.specs.theory.SoughtLaws.{placed_at, sought_as}
use Rattle.table_find.specs.theory.Labels.{label_refused, val_high, label_word}
use Rattle.table_relabel.proofs.call.relabel.Goals as goal
use Rattle.table_relabel.proofs.call.relabel.Goals.{In_ok-admit}

-- the table is opened for the key
opened : (c : In_ok-admit) → let a = c.args in open_of a.s (length a.t.now) a.key ≡ Ok c.in_ok-g.g
opened c = sym c.admit.ensures ∙ ap (laid_if c.in_ok-g.g) c.in_ok-admit.was

pub admit-requires : goal.admit-requires
admit-requires c = sym c.layout.ensures ∙ c.in_ok-g.was

pub fits-requires : goal.fits-requires
fits-requires c =
    let a = c.args in
    val_high (open_means a.s a.key _ _ (opened (goal.at.fits-requires c).In_ok-admit))

pub returns-then-not-fits : goal.returns-then-not-fits
returns-then-not-fits c =
    let a = c.args in
    label_refused a.t.now (relabel a.label) a.label refl (open_means a.s a.key _ _ (opened (goal.at.returns-then-not-fits c).In_ok-admit))
    (sym c.fits.ensures ∙ c.if-not-fits.true)

pub place-place-requires : goal.place-place-requires
place-place-requires c =
    let a = c.args in
    (placed_at a.s a.key a.t.now (opened (goal.at.place-place-requires c).In_ok-admit)).place

pub find_in-found-requires : goal.find_in-found-requires
find_in-found-requires c =
    let a = c.args in
    rw c.place-place.ensures (placed_at a.s a.key a.t.now (opened (goal.at.find_in-found-requires c).In_ok-admit)).find

pub overflow_cast-label : goal.overflow_cast-label
overflow_cast-label c =
    let a = c.args in
    let low = ltb-true a.label (2 ^ a.s.val) (sym c.fits.ensures ∙ c.if-not-fits.false) in
    record { fits = label_word (open_means a.s a.key _ _ (opened (goal.at.overflow_cast-label c).In_ok-admit)) low }

pub relabel_found-requires : goal.relabel_found-requires
relabel_found-requires c =
    let a = c.args in
    let o = opened (goal.at.relabel_found-requires c).In_ok-admit in (
      o,
      sought_as a.s a.key a.t.now o c.place-place.result c.find_in-found.result c.place-place.ensures c.find_in-found.ensures,
      ltb-true a.label (2 ^ a.s.val) (sym c.fits.ensures ∙ c.if-not-fits.false),
    )

pub returns-in_err-admit : goal.returns-in_err-admit
returns-in_err-admit c =
    let a = c.args in
    let p = err_from_is_err_and c.from_residual-in_err-admit.result c.from_residual-in_err-admit.ensures.1 in
    let o = sym c.admit.ensures ∙ ap (laid_if c.in_ok-g.g) c.in_err-admit.was in
    rw (p.1, p.2, open_refused a.s a.key a.t.now (relabel a.label) _ o) (record { answer = refl; bytes = refl })

pub returns-in_err-g : goal.returns-in_err-g
returns-in_err-g c =
    let a = c.args in
    let p = err_from_is_err_and c.from_residual.result c.from_residual.ensures.1 in
    let e = sym c.layout.ensures ∙ c.in_err-g.was in
    rw (p.1, p.2, open_refused a.s a.key a.t.now (relabel a.label) _ (open_illegal a.s a.key (length a.t.now) _ e))
    (record { answer = refl; bytes = refl })
