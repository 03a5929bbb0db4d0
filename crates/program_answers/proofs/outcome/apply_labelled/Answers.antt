-- A label that does not fit is refused for both; behind that it is the table's own call.
use mathlib.Core.Path.{◌≡◌, refl, sym, ◌∙◌}
use mathlib.Core.Bool.{true, true≢false}
use mathlib.Core.List.{[], ◌∷◌}
use Prim.Native.Nat.{ℕ}
use Rattle.settings.specs.Due.{label_due}
use Rattle.table.specs.Calls.{verb_due}
use Rattle.table_find.specs.theory.Seeks.{open_means}
use Rattle.table_find.specs.theory.Labels.{label_refused}
use Rattle.program_commands.specs.Command.{takes_label}
use Rattle.program_commands.specs.declared.command.Op.{Op}
use Rattle.program_commands.specs.declared.command.Op.TheVariants as op
use Rattle.program_answers.specs.Program.{program}
use Rattle.program_answers.specs.Outcome.{verb_of}
use Rattle.program_answers.proofs.Verbs.{given}
use Rattle.program_answers.proofs.outcome.apply_labelled.Goals as goal

-- the label is all that is refused for it
due_for : (o : Op) (label : ℕ) → takes_label o ≡ true → verb_due program (verb_of o label) ≡ label_due program label ∷ []
due_for op.Enter label e = refl
due_for op.Relabel label e = refl
due_for op.Delete label e = absurd (true≢false (sym e))
due_for op.Find label e = absurd (true≢false (sym e))

-- what takes a label and does not enter relabels
relabels : (o : Op) → takes_label o ≡ true → (o ≡ op.Enter → ⊥) → o ≡ op.Relabel
relabels op.Enter e n = absurd (n refl)
relabels op.Relabel e n = refl
relabels op.Delete e n = absurd (true≢false (sym e))
relabels op.Find e n = absurd (true≢false (sym e))

pub returns-then-not-fits : goal.returns-then-not-fits
returns-then-not-fits c =
    let a = c.args in
    label_refused a.t.now (verb_of a.op a.label) a.label (due_for a.op a.label c.requires.0) (open_means program a.key _ _ c.requires.1)
    (rw c.from.ensures at (sym c.fits.ensures ∙ c.if-not-fits.true))

pub returns-in-Enter : goal.returns-in-Enter
returns-in-Enter c =
    let a = c.args in
    given a.t.now a.key a.label c.in-Enter.is c.enter_sought.ensures

pub returns-in_default : goal.returns-in_default
returns-in_default c =
    let a = c.args in
    given a.t.now a.key a.label
    (relabels a.op c.requires.0 c.in_default.not-Enter)
    c.relabel_sought.ensures
