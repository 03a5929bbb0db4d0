use mathlib.Core.Path.{◌≡◌, sym, ap, ◌∙◌}
use mathlib.Core.List.{List}
use Prim.Native.Nat.{ℕ, ◌+◌, ◌/◌, ◌≤◌, ◌<◌}
use native.Mathlib.Nat.{lt_of_not-le}
use native.Mathlib.Omega.{arith}
use lib.Bits.{bit_and}
use lib.Count.{count_trailing_zeros}
use Rattle.text_write.specs.Writing.{longest}
use Rattle.text_write.specs.WriterSteps.{key_groups, run_marks}
use Rattle.text_write.specs.theory.LongestRun.{longest_run}
use Rattle.text_write.proofs.Groups.{eight}
use Rattle.text_write.proofs.Marks.{marks_none, marks_next, marks_clear, marks_found}
use Rattle.text_write.proofs.writer.longest_run.Goals as goal
use Rattle.text_write.proofs.writer.longest_run.Goals.{In-loop-longer}

-- where the marks of a list are those of one whose marks are single's, the next follow
next : (single marks n : ℕ) → 1 ≤ n → ((l : List ℕ) → single ≡ run_marks 1 l → marks ≡ run_marks n l)
    → (l : List ℕ) → single ≡ run_marks 1 l → bit_and marks (marks / 2) ≡ run_marks (n + 1) l
next single marks n h f l e = ap (λ (x : ℕ). bit_and x (x / 2)) (f l e) ∙ marks_next n l h

pub loop-longer-init : goal.loop-longer-init
loop-longer-init c =
    let single = c.zero_groups-single.result in
    let two = next single single 1 (omega arith) (λ l e. e) in
    let three = next single (bit_and single (single / 2)) 2 (omega arith) two in
    (omega arith, omega arith, omega (arith, c.if-marks-eq0.false), λ l e. (two l e, three l e))

-- a longer run was found, so that there are groups enough
more : (c : In-loop-longer) → c.loop-longer.count < 8
more c =
    let k = c.args.key in
    let m = c.loop-longer.invariant.3 (key_groups k) c.zero_groups-single.ensures in
    lt_of_not-le (λ l. c.loop-longer-test.true (m.1 ∙ marks_none (c.loop-longer.count + 1) (key_groups k) (omega (arith, eight k))))

pub loop-longer-smaller : goal.loop-longer-smaller
loop-longer-smaller c = let b = more (goal.at.loop-longer-smaller c).In-loop-longer in omega arith

pub loop-longer-preserved : goal.loop-longer-preserved
loop-longer-preserved c =
    let single = c.zero_groups-single.result in
    let n = c.loop-longer.count in
    let f = c.loop-longer.invariant.3 in
    (omega arith, omega (arith, more (goal.at.loop-longer-preserved c).In-loop-longer), omega (arith, c.loop-longer-test.true), λ l e. ((f l e).1, next single c.loop-longer.longer (n + 1) (omega arith) (λ m d. (f m d).1) l e))

pub returns-clause-some : goal.returns-clause-some
returns-clause-some c =
    let n = c.loop-longer.count in
    let k = key_groups c.args.key in
    let m = c.loop-longer.invariant.3 k c.zero_groups-single.ensures in
    let e : run_marks (n + 1) k ≡ 0 = sym m.1 ∙ c.loop-longer-test.false in
    let p : 0 < run_marks n k = omega (arith, m.0, c.loop-longer.invariant.2) in
    let r = marks_found 32 n k (omega (arith, eight c.args.key)) (omega arith) e p in
    let s : count_trailing_zeros 32 c.loop-longer.marks ≡ (longest k).0 = ap (λ (x : ℕ). count_trailing_zeros 32 x) m.0 ∙ sym (ap (λ (q : ℕ × ℕ). q.0) r) in
    let t : n ≡ (longest k).1 = sym (ap (λ (q : ℕ × ℕ). q.1) r) in
    record {
      two = c.loop-longer.invariant.0;
      start = s;
      count = t;
      within = omega (arith, (longest_run k).within, eight c.args.key);
    }

pub returns-then-marks-eq0-clause-none : goal.returns-then-marks-eq0-clause-none
returns-then-marks-eq0-clause-none c =
    let k = key_groups c.args.key in
    let e : run_marks 2 k ≡ 0 = sym (next c.zero_groups-single.result c.zero_groups-single.result 1 (omega arith) (λ l e. e) k c.zero_groups-single.ensures) ∙ c.if-marks-eq0.true in
    omega (arith, marks_clear 1 k e)
