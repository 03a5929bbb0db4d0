-- What was admitted decides: the call with the key, or its refusal, which leaves every byte.
use Rattle.std.proofs.Common.{◌≡◌, ◌^◌, ◌<◌, Ok, length, refl, sym, ◌∙◌}
use Rattle.std.proofs.lemmas.Result.{err_from_is_err_and}
use borrow.Author.Tests.{ltb-true}
use Rattle.table_find.specs.Seek.{open_of}
use Rattle.table_find.specs.theory.Seeks.{Opened, open_means}
use Rattle.table_find.specs.theory.SoughtLaws.{placed_at, sought_as}
use Rattle.table_find.specs.theory.Labels.{label_refused, val_high, label_word}
use Rattle.text_calls.specs.theory.TextCalls.{admitted_open, admitted_illegal, admitted_key, admitted_refused}
use Rattle.text_calls.proofs.calls.labelled_read.Goals as goal
use Rattle.text_calls.proofs.calls.labelled_read.Given.{Over}
use Rattle.text_calls.proofs.calls.labelled_read.Goals.{Else-not-fits, In_ok-key}

module _ (g : Over) where
  -- a key was admitted: the table is opened for it
  open_at : (c : In_ok-key g) → let a = c.args in open_of a.s (length a.t.now) c.in_ok-key.key ≡ Ok c.in_ok-g.g
  open_at c =
      let a = c.args in
      admitted_open a.s a.t.now a.text.now (sym c.layout.ensures ∙ c.in_ok-g.was) (sym c.admit.ensures ∙ c.in_ok-key.was)

  open_means_at : (c : In_ok-key g) → let a = c.args in Opened a.s (length a.t.now) c.in_ok-key.key c.in_ok-g.g
  open_means_at c = let a = c.args in open_means a.s c.in_ok-key.key (length a.t.now) _ (open_at c)

  -- the label fits
  low : (c : Else-not-fits g) → let a = c.args in a.label < 2 ^ a.s.val
  low c =
      let a = c.args in
      ltb-true a.label (2 ^ a.s.val) (sym c.fits.ensures ∙ c.if-not-fits.false)

pub place-place-requires : goal.place-place-requires
place-place-requires g c =
    let a = c.args in
    (placed_at a.s c.in_ok-key.key a.t.now (open_at g (goal.at.place-place-requires g c).In_ok-key)).place

pub fits-requires : goal.fits-requires
fits-requires g c = val_high (open_means_at g (goal.at.fits-requires g c).In_ok-key)

pub returns-then-not-fits : goal.returns-then-not-fits
returns-then-not-fits g c =
    let a = c.args in
    let v = g.L.Labelled.verb a.label in
    admitted_key a.s a.t.now a.text.now v (sym c.admit.ensures ∙ c.in_ok-key.was)
    (label_refused a.t.now v a.label (g.met.L.Labelled.due a.s a.label) (open_means_at g (goal.at.returns-then-not-fits g c).In_ok-key) (sym c.fits.ensures ∙ c.if-not-fits.true))

pub overflow_cast-label : goal.overflow_cast-label
overflow_cast-label g c =
    record { fits = label_word (open_means_at g (goal.at.overflow_cast-label g c).In_ok-key) (low g (goal.at.overflow_cast-label g c).Else-not-fits) }

pub find_in-found-requires : goal.find_in-found-requires
find_in-found-requires g c =
    let a = c.args in
    rw c.place-place.ensures (placed_at a.s c.in_ok-key.key a.t.now (open_at g (goal.at.find_in-found-requires g c).In_ok-key)).find

pub sought-answer-requires : goal.sought-answer-requires
sought-answer-requires g c =
    let a = c.args in
    let o = open_at g (goal.at.sought-answer-requires g c).In_ok-key in
    (o, sought_as a.s c.in_ok-key.key a.t.now o c.place-place.result c.find_in-found.result c.place-place.ensures c.find_in-found.ensures, low g (goal.at.sought-answer-requires g c).Else-not-fits)

pub returns : goal.returns
returns g c =
    let a = c.args in
    admitted_key a.s a.t.now a.text.now (g.L.Labelled.verb a.label) (sym c.admit.ensures ∙ c.in_ok-key.was) c.sought-answer.ensures

pub returns-in_err-key : goal.returns-in_err-key
returns-in_err-key g c =
    let a = c.args in
    let p = err_from_is_err_and c.from_residual-in_err-key.result c.from_residual-in_err-key.ensures.1 in
    rw (p.1, p.2) (admitted_refused a.s a.t.now a.text.now (g.L.Labelled.verb a.label) (sym c.admit.ensures ∙ c.in_err-key.was) refl)

pub returns-in_err-g : goal.returns-in_err-g
returns-in_err-g g c =
    let a = c.args in
    let p = err_from_is_err_and c.from_residual.result c.from_residual.ensures.1 in
    rw (p.1, p.2)
    (admitted_refused a.s a.t.now a.text.now (g.L.Labelled.verb a.label)
    (admitted_illegal a.s a.t.now a.text.now _ (sym c.layout.ensures ∙ c.in_err-g.was)) refl)
