-- What is left of the text, with the decimals read so far, gives the answer.
use Prim.Native.Nat.{ℕ, ◌+◌, ◌*◌, ◌^◌, ◌≤◌, ◌<◌}
use mathlib.Core.Path.{◌≡◌, sym, ap, ◌∙◌}
use mathlib.Core.Option.{Option, none, some}
use native.Mathlib.Omega.{arith}
use lib.ListN.{length, drop}
use lib.Dec.{eqb, lit<}
use Rattle.text_read.specs.Class.{dot}
use Rattle.text_read.specs.Numerals.{decimal}
use Rattle.text_read.specs.ReaderSteps.{until, numeral_of}
use Rattle.text_read.specs.theory.Joined.{digit_more}
use Rattle.text_read.proofs.Fields.{digit_most}
use Rattle.text_read.proofs.Splits.{Past, numeral_if, no_decimal, one_decimal, decimal_le, dotted_bad, dotted_many, dotted_last, dotted_more}
use Rattle.text_read.proofs.reader.dotted.Goals as goal
use Rattle.text_read.proofs.reader.dotted.Goals.{In_ok-byte}

-- the decimal that is found in the field, and where the field ends
found : (c : In_ok-byte) → (decimal (until dot (drop c.loop-byte.at c.args.text.now)) ≡ some c.in_ok-byte.byte.value) × Past dot c.args.text.now c.loop-byte.at c.in_ok-byte.byte.next
found c = one_decimal _ _ c.loop-byte.invariant.0 _ (sym c.decimal.ensures ∙ c.in_ok-byte.was)

-- three decimals at most stand before it
three : (n v : ℕ) → v < 256 ^ n → n ≤ 4 → (n ≡ 4 → ⊥) → v < 256 ^ 3
three n v h l m = digit_most 256 n 3 v (lit< tt) h (omega arith)

-- the answer is that of what is left
answered : {o p : Option ℕ} (n : ℕ) (q : Option ℕ) → o ≡ p → p ≡ q → numeral_of o n ≡ numeral_of q n
answered n q e f = ap (λ (x : Option ℕ). numeral_of x n) (e ∙ f)

pub returns-in_err-byte : goal.returns-in_err-byte
returns-in_err-byte c =
    let s = c.args.text.now in
    c.from_residual.ensures
    ∙ sym (answered (length s) none c.loop-byte.invariant.3 (dotted_bad c.loop-byte.value c.loop-byte.count (drop c.loop-byte.at s) (no_decimal s c.loop-byte.at (sym c.decimal.ensures ∙ c.in_err-byte.was))))

pub returns-then-count-eq4 : goal.returns-then-count-eq4
returns-then-count-eq4 c =
    let f = found (goal.at.returns-then-count-eq4 c).In_ok-byte in
    sym (answered (length c.args.text.now) none c.loop-byte.invariant.3 (dotted_many _ _ _ _ f.0 (omega arith)))

pub overflow_mul-value : goal.overflow_mul-value
overflow_mul-value c = omega (arith, three _ _ c.loop-byte.invariant.2 c.loop-byte.invariant.1 c.if-count-eq4.false)

pub overflow_add-value : goal.overflow_add-value
overflow_add-value c =
    let f = found (goal.at.overflow_add-value c).In_ok-byte in
    omega (arith, three _ _ c.loop-byte.invariant.2 c.loop-byte.invariant.1 c.if-count-eq4.false, decimal_le _ _ f.0)

pub returns-then-byte-text : goal.returns-then-byte-text
returns-then-byte-text c =
    let f = found (goal.at.returns-then-byte-text c).In_ok-byte in
    let b = c.in_ok-byte.byte in
    let m = length c.args.text.now in
    c.four.ensures
    ∙ sym (answered m _ c.loop-byte.invariant.3 (dotted_last _ _ _ _ f.0 (f.1.last c.if-byte-text.true))
    ∙ numeral_if (eqb (c.loop-byte.count + 1) 4) (c.loop-byte.value * 256 + b.value) m ∙ rw (sym c.if-byte-text.true))

pub overflow_add-at : goal.overflow_add-at
overflow_add-at c = omega (arith, (found (goal.at.overflow_add-at c).In_ok-byte).1.within, c.well_formed)

pub loop-byte-smaller : goal.loop-byte-smaller
loop-byte-smaller c =
    let f = found (goal.at.loop-byte-smaller c).In_ok-byte in
    omega (arith, f.1.within, f.1.from, c.if-byte-text.false)

pub loop-byte-preserved : goal.loop-byte-preserved
loop-byte-preserved c =
    let f = found (goal.at.loop-byte-preserved c).In_ok-byte in
    let l : c.in_ok-byte.byte.next < length c.args.text.now = omega (arith, f.1.within, c.if-byte-text.false) in (
      omega arith,
      omega (arith, c.if-count-eq4.false),
      digit_more 256 c.loop-byte.count c.loop-byte.value c.in_ok-byte.byte.value c.loop-byte.invariant.2 (omega (arith, decimal_le _ _ f.0)),
      c.loop-byte.invariant.3 ∙ dotted_more _ _ _ _ f.0 _ _ (f.1.more l),
    )
