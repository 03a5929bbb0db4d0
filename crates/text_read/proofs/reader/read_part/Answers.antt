-- What is left of the text, with the groups read so far, gives the answer.
use Rattle.std.specs.Prelude.{Some}
use Prim.Native.Nat.{◌+◌}
use mathlib.Core.Path.{◌≡◌, sym, ap, ◌∙◌}
use native.Mathlib.Omega.{arith}
use mathlib.Core.Option.{some}
use lib.ListN.{drop}
use lib.Dec.{lit≤}
use Rattle.text_read.specs.Class.{colon}
use Rattle.text_read.specs.Numerals.{group}
use Rattle.text_read.specs.ReaderSteps.{until, part_at}
use Rattle.text_read.proofs.Splits.{Past, no_group, one_group}
use Rattle.text_read.proofs.Joined.{group_small}
use Rattle.text_read.proofs.Parts.{part_tail, turn_many, turn_last, turn_short, turn_gap, turn_more}
use Rattle.text_read.specs.Gathered.{Gathered}
use Rattle.text_read.specs.declared.reader.Part.TheVariants as answer
use Rattle.text_read.proofs.reader.read_part.Goals as goal
use Rattle.text_read.proofs.reader.read_part.Goals.{In-Some}

-- the group that is found in the field, and where the field ends
found : (c : In-Some) → (group (until colon (drop c.loop-value.at c.args.text.now)) ≡ some c.in-Some.field-0.value) × Past colon c.args.text.now c.loop-value.at c.in-Some.field-0.next
found c = one_group _ _ c.loop-value.invariant.0 _ (sym c.group.ensures ∙ c.in-Some.is)

pub returns-in_default : goal.returns-in_default
returns-in_default c =
    let s = c.args.text.now in
    let i = c.loop-value.at in
    c.with_tail.ensures
    ∙ sym (c.loop-value.invariant.1 ∙ part_tail c.loop-value.groups _ (drop i s) i (no_group s i (sym c.group.ensures ∙ c.in_default.is)) c.before_tail.ensures)

pub returns-then-count-gt7 : goal.returns-then-count-gt7
returns-then-count-gt7 c =
    let f = found (goal.at.returns-then-count-gt7 c).In-Some in
    sym (c.loop-value.invariant.1 ∙ turn_many _ _ _ _ _ _ f.0 f.1 (rw c.count.ensures at c.if-count-gt7.true))

pub pushed-groups-requires : goal.pushed-groups-requires
pushed-groups-requires c =
    (lit≤ tt, lit≤ tt, omega (arith, c.count.ensures, c.if-count-gt7.false), group_small _ _ (found (goal.at.pushed-groups-requires c).In-Some).0)

pub returns-then-next-text : goal.returns-then-next-text
returns-then-next-text c =
    let f = found (goal.at.returns-then-next-text c).In-Some in
    ap (λ (g : Gathered). Some (answer.Whole g)) c.pushed-groups.ensures
    ∙ sym (c.loop-value.invariant.1 ∙ turn_last _ _ _ _ _ _ f.0 f.1 c.if-next-text.true (rw c.count.ensures at c.if-count-gt7.false))

pub overflow_add-at : goal.overflow_add-at
overflow_add-at c =
    omega (arith, (found (goal.at.overflow_add-at c).In-Some).1.within, c.well_formed)

pub returns-then-at-text : goal.returns-then-at-text
returns-then-at-text c =
    let f = found (goal.at.returns-then-at-text c).In-Some in
    sym (c.loop-value.invariant.1 ∙ turn_short _ _ _ _ _ _ f.0 f.1 c.if-at-text.true)

pub bounds-text-at : goal.bounds-text-at
bounds-text-at c = omega (arith, (found (goal.at.bounds-text-at c).In-Some).1.within, c.if-next-text.false, c.if-at-text.false)

pub overflow_add-result : goal.overflow_add-result
overflow_add-result c =
    omega (arith, (found (goal.at.overflow_add-result c).In-Some).1.within, c.if-next-text.false, c.if-at-text.false, c.well_formed)

pub returns-then-class-eq-COLON : goal.returns-then-class-eq-COLON
returns-then-class-eq-COLON c =
    let f = found (goal.at.returns-then-class-eq-COLON c).In-Some in
    ap (λ (p : Gathered). Some (answer.Gap p (c.in-Some.field-0.next + 1 + 1))) c.pushed-groups.ensures
    ∙ sym (c.loop-value.invariant.1 ∙ turn_gap _ _ _ _ _ _ f.0 f.1 (omega (arith, f.1.within, c.if-next-text.false, c.if-at-text.false)) (sym c.class.ensures ∙ c.if-class-eq-COLON.true) (rw c.count.ensures at c.if-count-gt7.false))

pub loop-value-smaller : goal.loop-value-smaller
loop-value-smaller c =
    omega (arith, (found (goal.at.loop-value-smaller c).In-Some).1.within, c.if-next-text.false, c.if-at-text.false, (found (goal.at.loop-value-smaller c).In-Some).1.from)

pub loop-value-preserved : goal.loop-value-preserved
loop-value-preserved c =
    let f = found (goal.at.loop-value-preserved c).In-Some in
    let next = c.in-Some.field-0.next + 1 in (
      omega (arith, f.1.within, c.if-next-text.false, c.if-at-text.false),
      c.loop-value.invariant.1
          ∙ turn_more _ _ _ _ _ _ f.0 f.1 (omega (arith, f.1.within, c.if-next-text.false, c.if-at-text.false)) (λ y. c.if-class-eq-COLON.false (c.class.ensures ∙ y))
          ∙ ap (λ (g : Gathered). part_at g.number g.count (drop next c.args.text.now) next) (sym c.pushed-groups.ensures),
    )
