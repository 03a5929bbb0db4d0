-- The dotted tail is two groups more.
use Rattle.std.specs.Prelude.{Some}
use mathlib.Core.Path.{◌≡◌, sym, ap, ◌∙◌}
use mathlib.Core.Option.{some}
use native.Mathlib.Omega.{arith}
use lib.ListN.{length, drop}
use lib.Dec.{lit≤}
use Rattle.text_read.specs.ReaderSteps.{dotted_from}
use Rattle.text_read.proofs.Splits.{numeral_bad, numeral_some, dotted_below}
use Rattle.text_read.proofs.Parts.{tail_many, tail_none, tail_some}
use Rattle.text_read.specs.Gathered.{Gathered}
use Rattle.text_read.specs.declared.reader.Part.TheVariants as answer
use Rattle.text_read.proofs.reader.with_tail.Goals as goal
use Rattle.text_read.proofs.reader.with_tail.Goals.{In_ok-tail}

-- the number of the tail that is found
tail : (c : In_ok-tail) → dotted_from 0 0 (drop c.args.at c.args.text.now) ≡ some c.in_ok-tail.tail.value
tail c = (numeral_some _ _ _ (sym c.dotted.ensures ∙ c.in_ok-tail.was)).0

pub returns-then-count-gt6 : goal.returns-then-count-gt6
returns-then-count-gt6 c = sym (tail_many _ _ _ (rw c.count.ensures at c.if-count-gt6.true))

pub returns-in_err-tail : goal.returns-in_err-tail
returns-in_err-tail c =
    c.from_residual.ensures ∙ sym (tail_none _ _ _ (numeral_bad _ (length c.args.text.now) (sym c.dotted.ensures ∙ c.in_err-tail.was)))

pub pushed-requires : goal.pushed-requires
pushed-requires c =
    (lit≤ tt, lit≤ tt, omega (arith, c.count.ensures, c.if-count-gt6.false), dotted_below _ _ (tail (goal.at.pushed-requires c).In_ok-tail))

pub returns : goal.returns
returns c =
    ap (λ (g : Gathered). Some (answer.Whole g)) c.pushed.ensures
    ∙ sym (tail_some _ _ _ _ (tail (goal.at.returns c).In_ok-tail) (omega (arith, c.count.ensures, c.if-count-gt6.false)))
