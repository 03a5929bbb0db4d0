-- What was found decides: "none" is appended to, any other word means that the key is held, and a refusal is handed on.
use Rattle.std.proofs.Common.{ap, ◌∙◌}
use Rattle.std.proofs.lemmas.Result.{err_from_is_err_and}
use Rattle.keys.specs.Key.{key_number}
use Rattle.table.specs.Answer.{said}
use Rattle.table.specs.declared.answers.Word.{Word}
use Rattle.table.specs.Decode.{decode}
use Rattle.table_find.specs.theory.Labels.{label_slot}
use Rattle.table_find.specs.theory.Seeks.{open_means}
use Rattle.table_find.specs.theory.SoughtLaws.{SoughtIn, sought_means}
use Rattle.table_enter.proofs.EnterLaws.{Missing, refused_gives, known_gives, sought_missing, appended_gives}
use Rattle.table_enter.proofs.insert.enter_sought.Goals as goal
use Rattle.table_enter.proofs.insert.enter_sought.Goals.{In-None, Start}

sought : (c : Start) → let a = c.args in SoughtIn a.s a.t.now a.key a.g a.v
sought c =
    let a = c.args in
    sought_means a.s a.t.now a.key a.g a.v c.requires.0 c.requires.1

-- "none" was found
absent : (c : In-None) →
    let a = c.args in
    SoughtIn a.s a.t.now a.key a.g a.v
    → Missing a.g (decode a.g a.t.now) a.v.place.list.0 (key_number a.v.place.entry) a.label c.in_ok-found.found.compared
absent c S =
    let f = c.in_ok-found.found in
    sought_missing S c.requires.2 _ _ _ (c.in_ok-found.was ∙ ap (λ (w : Word). said w f.label f.compared f.slot) c.in-None.is)

pub append-requires : goal.append-requires
append-requires c =
    let a = c.args in
    let S = sought (goal.at.append-requires c).Start in (
      record {
        table = S.table;
        list = S.list_below;
        slotted = record { entry_fits = S.entry_below; label_fits = label_slot (open_means a.s a.key _ a.g c.requires.0) c.requires.2 };
      },
      (absent (goal.at.append-requires c).In-None S).readable,
    )

pub returns : goal.returns
returns c =
    let S = sought (goal.at.returns c).Start in
    appended_gives S c.requires.2 _ (absent (goal.at.returns c).In-None S) _ _ c.append.ensures

pub returns-in_default : goal.returns-in_default
returns-in_default c =
    known_gives (sought (goal.at.returns-in_default c).Start) c.requires.2 _ _ _ _ c.in_default.not-None c.in_ok-found.was

pub returns-in_err-found : goal.returns-in_err-found
returns-in_err-found c =
    let p = err_from_is_err_and c.from_residual.result c.from_residual.ensures.1 in
    rw (p.1, p.2) (refused_gives (sought (goal.at.returns-in_err-found c).Start) c.requires.2 _ c.in_err-found.was)
