-- After n turns the first n of the records ahead stand behind the heading.
use mathlib.Core.Path.{ap, ◌∙◌}
use mathlib.Core.Logic.{inl, inr}
use mathlib.Core.List.{List, ◌++◌}
use Prim.Native.Nat.{ℕ, ◌-◌, ◌^◌, ◌≤◌, ◌<◌}
use native.Mathlib.Omega.{arith}
use lib.ListN.{length, take, drop, length-drop}
use lib.Seq.{length-take-le}
use lib.Pow.{pow_mono}
use Rattle.settings.specs.theory.Proper.{lists_are, bie_is}
use Rattle.keys.specs.Key.{key_number, rebuilt}
use Rattle.plain_set.specs.Rebuilt.{pair}
use Rattle.text_sheet.specs.theory.Lines.{pair_row_length}
use Rattle.table_cursor.specs.Ahead.{ahead}
use Rattle.text_sheet.proofs.PageLaws.{upto_start, upto_more, upto_lines, record_row}
use Rattle.text_sheet.proofs.rows.put_page.Goals as goal
use Rattle.text_sheet.proofs.rows.put_page.Goals.{At-loop-n, In-Some}

-- the buffer holds a page
room : (k : At-loop-n) → 2091 ≤ length k.put_heading.new.line
room k = omega (arith, k.requires.1, k.put_heading.auto.line)

pub loop-n-init : goal.loop-n-init
loop-n-init c = (c.requires.0.good, omega arith, upto_start _ _)

pub key-requires : goal.key-requires
key-requires c =
    let laid = c.requires.0.laid in (
      c.requires.0.legal,
      rw (← lists_are c.args.s c.args.g laid) c.in-Some.ensures.list,
      rw (← bie_is c.args.s c.args.g laid) c.in-Some.ensures.entry,
    )

-- a row has room in it
wide : (c : In-Some) → 51 ≤ length (take (length c.loop-n.out - c.loop-n.end) (drop c.loop-n.end c.loop-n.out))
wide c =
    let out = c.loop-n.out in
    let at = c.loop-n.end in
    let room : 2091 ≤ length c.put_heading.new.line = omega (arith, c.requires.1, c.put_heading.auto.line) in
    omega (arith, length-take-le (length out - at) (drop at out) (omega (arith, length-drop at out)), c.loop-n.auto.out, room, c.loop-n-test.true, c.loop-n.invariant.1)

pub loop-n-preserved : goal.loop-n-preserved
loop-n-preserved c =
    let r = c.in-Some.r in
    let gave = c.in-Some.ensures in
    let key = rebuilt c.args.s r.list.0 (key_number r.entry) in
    let at = c.loop-n.end in
    let m : ℕ = length c.loop-n.out - at in
    let fits : r.label < 2 ^ 32 = omega (arith, gave.label, pow_mono c.requires.0.table.proper.val_high) in (
      gave.good,
      omega (arith, c.loop-n.invariant.1),
      upto_more (ahead c.args.s c.args.t.now c.args.cursor) _ c.loop-n._n _ c.loop-n.out c.loop-n.invariant.2 (room (goal.at.loop-n-preserved c).At-loop-n) (pair key r.label) _
          (gave.are c.args.s c.requires.0.laid) (omega (arith, c.loop-n-test.true)) (pair_row_length (pair key r.label) fits) c.put_row.new.line at m c.loop-n.invariant.1
          (wide (goal.at.loop-n-preserved c).In-Some)
          (c.put_row.ensures ∙ ap (λ (r : List ℕ). r ++ drop 51 (take m (drop at c.loop-n.out))) (record_row key r.label c.key.result c.key.ensures)),
    )

-- 40 rows, or all
pub returns-after-loop-n : goal.returns-after-loop-n
returns-after-loop-n c =
    upto_lines (ahead c.args.s c.args.t.now c.args.cursor) c.put_heading.new.line c.loop-n._n _ c.loop-n.out c.loop-n.invariant.2
    (room (goal.at.returns-after-loop-n c).At-loop-n) (inl (omega (arith, c.loop-n-test.false))) c.args.out.now c.put_heading.ensures _ c.loop-n.invariant.1

pub returns-in_default : goal.returns-in_default
returns-in_default c =
    upto_lines (ahead c.args.s c.args.t.now c.args.cursor) c.put_heading.new.line c.loop-n._n _ c.loop-n.out c.loop-n.invariant.2
    (room (goal.at.returns-in_default c).At-loop-n) (inr (c.in_default.ensures.are c.args.s c.requires.0.laid)) c.args.out.now c.put_heading.ensures _ c.loop-n.invariant.1
