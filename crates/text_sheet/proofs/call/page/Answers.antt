-- The layout's answer, the lengths and w decide refusals 1, 2, 3 and 9; the rest is surveyed.
use Rattle.std.proofs.lemmas.Result.{err_from_is_err_and}
use mathlib.Core.Path.{◌≡◌, sym, ◌∙◌}
use mathlib.Core.Bool.{true}
use native.Mathlib.Omega.{arith}
use Rattle.settings.specs.Legal.{legal}
use Rattle.settings.specs.Layout.{layout_of}
use Rattle.settings.specs.theory.Legal.{legal_means, laid_layout, laid_refused}
use Rattle.table.specs.theory.Opened.{opened_table}
use Rattle.text_sheet.proofs.CallLaws.{refused_settings, refused_short, refused_width, refused_output, goes_on}
use Rattle.text_sheet.proofs.call.page.Goals as goal
use Rattle.text_sheet.proofs.call.page.Goals.{In_ok-g}

-- the settings are legal, and the layout is theirs
laid : (c : In_ok-g) → let a = c.args in (legal a.s ≡ true) × (layout_of a.s ≡ c.in_ok-g.g)
laid c = laid_layout c.args.s c.in_ok-g.g (sym c.layout.ensures ∙ c.in_ok-g.was)

pub returns-then-t-g : goal.returns-then-t-g
returns-then-t-g c =
    let a = c.args in
    refused_short a.s a.t.now a.page a.out.now c.in_ok-g.g (laid (goal.at.returns-then-t-g c).In_ok-g) c.if-t-g.true

pub returns-then-s-ne128 : goal.returns-then-s-ne128
returns-then-s-ne128 c =
    let a = c.args in
    refused_width a.s a.t.now a.page a.out.now c.in_ok-g.g (laid (goal.at.returns-then-s-ne128 c).In_ok-g) c.if-t-g.false c.if-s-ne128.true

pub returns-then-out-lt-PAGE_BYTES : goal.returns-then-out-lt-PAGE_BYTES
returns-then-out-lt-PAGE_BYTES c =
    let a = c.args in
    refused_output a.s a.t.now a.page a.out.now c.in_ok-g.g (laid (goal.at.returns-then-out-lt-PAGE_BYTES c).In_ok-g) c.if-t-g.false c.if-s-ne128.false (omega (arith, c.if-out-lt-PAGE_BYTES.true))

pub surveyed-requires : goal.surveyed-requires
surveyed-requires c =
    let a = c.args in
    let is = laid (goal.at.surveyed-requires c).In_ok-g in (
      legal_means a.s is.0,
      is.1,
      opened_table a.s c.in_ok-g.g is.0 is.1 a.t.now c.if-t-g.false,
      omega (arith, c.if-out-lt-PAGE_BYTES.false),
    )

pub returns : goal.returns
returns c =
    let a = c.args in
    rw (goes_on a.s a.t.now a.page a.out.now c.in_ok-g.g (laid (goal.at.returns c).In_ok-g) c.if-t-g.false c.if-s-ne128.false (omega (arith, c.if-out-lt-PAGE_BYTES.false)))
    c.surveyed.ensures

pub returns-in_err-g : goal.returns-in_err-g
returns-in_err-g c =
    let p = err_from_is_err_and c.from_residual.result c.from_residual.ensures.1 in
    let a = c.args in
    let e = laid_refused a.s _ (sym c.layout.ensures ∙ c.in_err-g.was) in
    rw (p.1, p.2, ← e.1) (refused_settings a.s a.t.now a.page a.out.now e.0)
