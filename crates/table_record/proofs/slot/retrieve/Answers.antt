-- The layout's answer, the length and the number decide the call's.
use Rattle.std.specs.Prelude.{Err}
use Rattle.std.proofs.lemmas.Result.{err_from_is_err_and}
use mathlib.Core.Path.{◌≡◌, sym, ap, ◌∙◌}
use mathlib.Core.Bool.{true}
use native.Mathlib.Omega.{arith}
use Rattle.settings.specs.Legal.{legal}
use Rattle.settings.specs.Layout.{layout_of}
use Rattle.settings.specs.theory.Legal.{legal_means, laid_layout, laid_refused}
use Rattle.table.specs.Table.{Table}
use Rattle.table.specs.theory.Opened.{opened_table}
use Rattle.table_record.proofs.Retrievals.{call_illegal, call_short, call_past, call_slot}
use Rattle.table_record.proofs.slot.retrieve.Goals as goal
use Rattle.table_record.proofs.slot.retrieve.Goals.{Else-t-g}

-- the settings are legal, and the layout is theirs
laid : (c : Else-t-g) → (legal c.args.s ≡ true) × (layout_of c.args.s ≡ c.in_ok-g.g)
laid c = laid_layout c.args.s c.in_ok-g.g (sym c.layout.ensures ∙ c.in_ok-g.was)

table : (c : Else-t-g) → Table c.in_ok-g.g c.args.t.now
table c =
    let a = c.args in
    opened_table a.s c.in_ok-g.g (laid c).0 (laid c).1 a.t.now c.if-t-g.false

pub returns-then-t-g : goal.returns-then-t-g
returns-then-t-g c =
    let means = laid_layout c.args.s c.in_ok-g.g (sym c.layout.ensures ∙ c.in_ok-g.was) in
    let a = c.args in
    call_short a.s a.t.now a.n c.in_ok-g.g means.0 means.1 c.if-t-g.true

pub slot_count-requires : goal.slot_count-requires
slot_count-requires c = (table (goal.at.slot_count-requires c).Else-t-g).proper

pub returns-then-n-slot_count : goal.returns-then-n-slot_count
returns-then-n-slot_count c =
    let means = laid_layout c.args.s c.in_ok-g.g (sym c.layout.ensures ∙ c.in_ok-g.was) in
    let a = c.args in
    call_past a.s a.t.now a.n c.in_ok-g.g means.0 means.1 c.if-t-g.false (omega (arith, c.slot_count.ensures, c.if-n-slot_count.true))

pub returns : goal.returns
returns c =
    let means = laid_layout c.args.s c.in_ok-g.g (sym c.layout.ensures ∙ c.in_ok-g.was) in
    let a = c.args in
    c.retrieve_in.ensures
    ∙ call_slot a.s a.t.now a.n c.in_ok-g.g means.0 means.1 c.if-t-g.false (omega (arith, c.slot_count.ensures, c.if-n-slot_count.false))

pub retrieve_in-requires : goal.retrieve_in-requires
retrieve_in-requires c =
    let means = laid_layout c.args.s c.in_ok-g.g (sym c.layout.ensures ∙ c.in_ok-g.was) in
    let a = c.args in (
      record { legal = legal_means a.s means.0; laid = means.1; table = table (goal.at.retrieve_in-requires c).Else-t-g },
      omega (arith, c.slot_count.ensures, c.if-n-slot_count.false),
    )

pub returns-in_err-g : goal.returns-in_err-g
returns-in_err-g c =
    let a = c.args in
    let p = err_from_is_err_and c.from_residual.result c.from_residual.ensures.1 in
    let e = laid_refused a.s _ (sym c.layout.ensures ∙ c.in_err-g.was) in
    rw (p.1, p.2) (ap Err (sym e.1) ∙ call_illegal a.s a.t.now a.n e.0)
