-- The table is opened for every key; behind that each command is the table's own call, once it is known what find answers.
use Rattle.std.specs.Prelude.{Ok}
use mathlib.Core.Path.{◌≡◌, refl, sym, ap, ◌∙◌}
use mathlib.Core.Bool.{true}
use mathlib.Core.List.{List}
use Prim.Native.Nat.{ℕ}
use native.Mathlib.Omega.{arith}
use lib.ListN.{length}
use Rattle.settings.specs.Reply.{Gives}
use Rattle.settings.specs.declared.layout.Layout.{Layout}
use Rattle.keys.specs.declared.Key.{Key}
use Rattle.table.specs.Calls.{find, list_call, key_call}
use Rattle.table_find.specs.Seek.{open_of, sought_of}
use Rattle.table_find.specs.theory.Seeks.{open_means, open_call}
use Rattle.table_find.specs.declared.Sought.{Sought}
use Rattle.program_commands.specs.Command.{takes_label}
use Rattle.program_commands.specs.declared.command.Op.{Op}
use Rattle.program_commands.specs.declared.command.Op.TheVariants as op
use Rattle.program_answers.specs.Program.{program}
use Rattle.program_answers.specs.theory.Applies.{program_opens}
use Rattle.program_answers.proofs.Verbs.{given}
use Rattle.program_answers.proofs.outcome.apply.Goals as goal
use Rattle.program_answers.proofs.outcome.apply.Goals.{After-layout-g}

-- what find answers
found : (t : List ℕ) (k : Key) {g : Layout} {v : Sought} → open_of program (length t) k ≡ Ok g → v ≡ sought_of program t k → Gives (key_call program t find k) v.found t
unfolding sought_of list_call
found t k {g} o e = rw (e, open_call program k t find (open_means program k (length t) g o)) (record { answer = refl; bytes = refl })

-- what neither deletes nor finds takes a label
takes : (o : Op) → (o ≡ op.Delete → ⊥) → (o ≡ op.Find → ⊥) → takes_label o ≡ true
takes op.Enter d f = refl
takes op.Relabel d f = refl
takes op.Delete d f = absurd (d refl)
takes op.Find d f = absurd (f refl)

opens : (c : After-layout-g) → open_of program (length c.args.t.now) c.args.key ≡ Ok c.layout-g.result
opens c =
    program_opens c.args.t.now (omega (arith, c)) c.args.key (omega (arith, c)) (omega (arith, c)) ∙ ap Ok (sym c.layout-g.ensures)

pub seek-v-requires : goal.seek-v-requires
seek-v-requires c = opens (goal.at.seek-v-requires c).After-layout-g

pub delete_sought-requires : goal.delete_sought-requires
delete_sought-requires c =
    (opens (goal.at.delete_sought-requires c).After-layout-g, c.seek-v.ensures)

pub apply_labelled-requires : goal.apply_labelled-requires
apply_labelled-requires c =
    let o = c.args.op in (
      takes o c.in_default.not-Delete c.in_default.not-Find,
      opens (goal.at.apply_labelled-requires c).After-layout-g,
      c.seek-v.ensures,
    )

pub returns-in-Delete : goal.returns-in-Delete
returns-in-Delete c =
    let a = c.args in
    given a.t.now a.key a.label c.in-Delete.is c.delete_sought.ensures

pub returns-in-Find : goal.returns-in-Find
returns-in-Find c =
    let a = c.args in
    given a.t.now a.key a.label c.in-Find.is (found a.t.now a.key (opens (goal.at.returns-in-Find c).After-layout-g) c.seek-v.ensures)
