-- What is found from here on, with the slots passed, is what is found from the first block on.
use mathlib.Core.Path.{◌≡◌, sym, ap, ◌∙◌}
use mathlib.Core.List.{List}
use Prim.Native.Nat.{ℕ, ◌+◌, ◌-◌, ◌*◌, ◌≤◌, ◌<◌}
use native.Mathlib.Omega.{arith}
use lib.ListN.{length}
use Rattle.settings.specs.Legal.{most_bits}
use Rattle.keys.specs.Key.{key_number}
use Rattle.settings.specs.declared.layout.Layout.{Layout}
use Rattle.table.specs.State.{Overflow}
use Rattle.table.specs.Decode.{decode}
use Rattle.table.specs.Find.{position}
use Rattle.table_read.specs.Steps.{slots_in, overflow_run, gather_from, find_from}
use Rattle.table_read.specs.BlockSlots.{number_from}
use Rattle.table.specs.Answer.{said, Answer}
use Rattle.table.specs.declared.answers.Word.TheVariants as word
use Rattle.table_read.specs.theory.Reads.{overflow_run_within}
use Rattle.table.specs.theory.Ways.{told_further, told_other}
use Rattle.table_read.specs.theory.Walks.{OneStep, one_step}
use Rattle.table_read.specs.theory.Finds.{block_held, block_none, block_on}
use Rattle.table_read.specs.theory.Scans.{overflow_row, label_inside, plain_position, held_plain}
use Rattle.table_read.specs.declared.slots.Slots.{Slots}
use Rattle.std.proofs.Common.{inl}
use Rattle.table_find.proofs.search.find_blocks.Goals as goal
use Rattle.table_find.proofs.search.find_blocks.Goals.{After-overflow_run-run, After-scan-j, At-loop, Then-j-run}

-- what find answers of the blocks from b on, where n slots stand before them
abbrev from : Layout → ℕ → ℕ → List Overflow → ℕ → ℕ → Answer
from g e m os b n = find_from g (number_from g m os b) e (gather_from g m os b) n

-- the block that a step stands at
here : (c : At-loop)
    → (let s = c.args in OneStep s.g (decode s.g s.t.now).overflow (s.g.nob - c.loop.counter) c.loop.b.0)
here c =
    let s = c.args in
    one_step s.g (decode s.g s.t.now).overflow (s.g.nob - c.loop.counter) c.loop.b.0 c.loop.invariant.1

-- its slots
few : (c : After-overflow_run-run)
    → (let s = c.args in (c.overflow_run-run.result.count ≤ s.g.sio) × (s.g.sio ≤ 15))
unfolding overflow_run
few c =
    (omega (arith, ap (λ (r : Slots). r.count) c.overflow_run-run.ensures), c.requires.0.proper.sio_high)

plain : (c : After-overflow_run-run) → c.overflow_run-run.result.displaced ≡ 0
unfolding overflow_run
plain c = ap (λ (r : Slots). r.displaced) c.overflow_run-run.ensures

plain_at_after_scan : (c : After-scan-j) → c.overflow_run-run.result.displaced ≡ 0
unfolding overflow_run
plain_at_after_scan c = ap (λ (r : Slots). r.displaced) c.overflow_run-run.ensures

-- the entry's place in them
place : (d : After-scan-j)
    → (let s = d.args in
    d.scan-j.result.0 ≡ position s.g (key_number s.entry) (slots_in s.g s.t.now d.overflow_run-run.result))
unfolding key_number
place d =
    plain_position d.args.g d.requires.0.proper d.args.t.now d.overflow_run-run.result (plain_at_after_scan d)
    (key_number d.args.entry) d.scan-j.result.0 d.scan-j.ensures

-- and the label of the slot found
inside : (c : Then-j-run)
    → (let s = c.args in OneStep s.g (decode s.g s.t.now).overflow (s.g.nob - c.loop.counter) c.loop.b.0)
    → (let s = c.args in
    let end = c.overflow_run-run.result.start + c.scan-j.result.0 * s.g.slot + s.g.bie + s.g.val in (end ≤ 8 * length s.t.now) × (end ≤ most_bits))
inside c here =
    label_inside c.args.g c.requires.0.proper c.args.t.now c.overflow_run-run.result c.scan-j.result.0
    (rw c.overflow_run-run.ensures
    (overflow_run_within c.args.g c.args.t.now c.requires.0 c.loop.b.0 c.overflow_front-front.result.counter here.low))
    c.if-j-run.true

pub loop-init : goal.loop-init
loop-init c =
    let e : c.args.g.nob - 0 ≡ c.args.g.nob = omega arith in
    (omega arith, rw e c.requires.1, rw e)

pub overflow_front-front-requires : goal.overflow_front-front-requires
overflow_front-front-requires c =
    (c.requires.0, (here (goal.at.overflow_front-front-requires c).At-loop).low)

pub overflow_run-run-requires : goal.overflow_run-run-requires
overflow_run-run-requires c =
    let T = c.requires.0 in
    (T.proper, (here (goal.at.overflow_run-run-requires c).At-loop).low, omega (arith, (here (goal.at.overflow_run-run-requires c).At-loop).count, c.overflow_front-front.ensures.0))

pub scan-j-requires : goal.scan-j-requires
unfolding overflow_run key_number
scan-j-requires c =
    (rw c.overflow_run-run.ensures (overflow_row c.args.g c.args.t.now c.requires.0 c.loop.b.0 (here (goal.at.scan-j-requires c).At-loop).low), (few (goal.at.scan-j-requires c).After-overflow_run-run).0, c.requires.2)

pub overflow_mul-j : goal.overflow_mul-j
overflow_mul-j c = omega (arith, inside (goal.at.overflow_mul-j c).Then-j-run (here (goal.at.overflow_mul-j c).At-loop))

pub overflow_add-run : goal.overflow_add-run
overflow_add-run c = omega (arith, inside (goal.at.overflow_add-run c).Then-j-run (here (goal.at.overflow_add-run c).At-loop))

pub overflow_add-run-then-j-run : goal.overflow_add-run-then-j-run
overflow_add-run-then-j-run c = omega (arith, inside (goal.at.overflow_add-run-then-j-run c).Then-j-run (here (goal.at.overflow_add-run-then-j-run c).At-loop))

pub overflow_add-j : goal.overflow_add-j
overflow_add-j c =
    omega (arith, c.if-j-run.true, few (goal.at.overflow_add-j c).After-overflow_run-run)

pub overflow_add-n : goal.overflow_add-n
overflow_add-n c =
    omega (arith, c.if-j-run.true, few (goal.at.overflow_add-n c).After-overflow_run-run, c.loop.invariant.0, c.requires.0.proper.nob_high, c.requires.3)

pub overflow_number-requires : goal.overflow_number-requires
overflow_number-requires c =
    let head = one_step c.args.g (decode c.args.g c.args.t.now).overflow c.args.g.nob c.args.first.0 c.requires.1 in
    (c.requires.0.proper, omega (arith, (here (goal.at.overflow_number-requires c).At-loop).low, head.low), omega (arith, c.if-j-run.true, few (goal.at.overflow_number-requires c).After-overflow_run-run))

pub held-requires : goal.held-requires
held-requires c = (
  (inside (goal.at.held-requires c).Then-j-run (here (goal.at.held-requires c).At-loop)).0,
  c.requires.0.proper.val_high,
  omega (arith, c.if-j-run.true, few (goal.at.held-requires c).After-overflow_run-run, c.loop.invariant.0, c.requires.0.proper.nob_high, c.requires.3),
)

pub returns-then-j-run : goal.returns-then-j-run
returns-then-j-run c =
    c.held.ensures
    ∙ ap (said word.Held _ _) c.overflow_number.ensures
    ∙ held_plain c.args.g c.requires.0.proper c.args.t.now c.overflow_run-run.result (plain (goal.at.returns-then-j-run c).After-overflow_run-run)
    c.scan-j.result.0 _ c.loop.n c.if-j-run.true (omega arith)
    ∙ block_held c.args.g c.args.t.now c.requires.0 (key_number c.args.entry) c.loop.n (c.args.g.nob - c.loop.counter) c.loop.b.0
    c.overflow_front-front.result.counter c.scan-j.result.0 c.overflow_run-run.result (here (goal.at.returns-then-j-run c).At-loop)
    c.overflow_front-front.ensures.0 c.overflow_run-run.ensures (place (goal.at.returns-then-j-run c).After-scan-j) c.if-j-run.true
    ∙ c.loop.invariant.2

pub overflow_add-n-in-loop : goal.overflow_add-n-in-loop
overflow_add-n-in-loop c =
    omega (arith, c.loop.invariant.0, c.requires.0.proper.nob_high, c.requires.3, few (goal.at.overflow_add-n-in-loop c).After-overflow_run-run)

pub not_held-requires : goal.not_held-requires
not_held-requires c =
    omega (arith, c.loop.invariant.0, c.requires.0.proper.nob_high, c.requires.3, few (goal.at.not_held-requires c).After-overflow_run-run)

pub returns-in_default : goal.returns-in_default
returns-in_default c =
    let other = told_other _ _ _ _ c.step_of.ensures {P = Unit {0}} {Q = Unit {0}} (λ e z. c.in_default.not-Further _ e) (λ e z. c.in_default.not-Further _ e) (inl tt) in
    let last : c.overflow_front-front.result.counter < c.args.g.sio = omega (arith, c.overflow_front-front.ensures.0, (here (goal.at.returns-in_default c).At-loop).count, other) in
    c.not_held.ensures
    ∙ block_none c.args.g c.args.t.now c.requires.0 (key_number c.args.entry) c.loop.n (c.args.g.nob - c.loop.counter) c.loop.b.0
    c.overflow_front-front.result.counter c.scan-j.result.0 c.overflow_run-run.result (here (goal.at.returns-in_default c).At-loop)
    c.overflow_front-front.ensures.0 c.overflow_run-run.ensures (place (goal.at.returns-in_default c).After-scan-j) c.if-j-run.false last
    ∙ c.loop.invariant.2

pub loop-preserved : goal.loop-preserved
loop-preserved c =
    let e = told_further _ _ _ _ c.step_of.ensures _ c.in-Further.is in
    let f : c.args.g.nob - c.loop.counter - 1 ≡ c.args.g.nob - (c.loop.counter + 1) = omega arith in (
      omega (arith, few (goal.at.loop-preserved c).After-overflow_run-run),
      rw (e.link, c.overflow_front-front.ensures.1, ← f) ((here (goal.at.loop-preserved c).At-loop).on (sym c.overflow_front-front.ensures.0 ∙ e.full)),
      rw (e.link, c.overflow_front-front.ensures.1, ← f)
          (block_on c.args.g c.args.t.now c.requires.0 (key_number c.args.entry) c.loop.n (c.args.g.nob - c.loop.counter) c.loop.b.0
          c.overflow_front-front.result.counter c.scan-j.result.0 c.overflow_run-run.result (here (goal.at.loop-preserved c).At-loop)
          c.overflow_front-front.ensures.0 c.overflow_run-run.ensures (place (goal.at.loop-preserved c).After-scan-j) c.if-j-run.false e.full
          ∙ c.loop.invariant.2),
    )

pub not_held-requires-2 : goal.not_held-requires-2
not_held-requires-2 c =
    absurd (omega (arith, (here (goal.at.not_held-requires-2 c).At-loop).fuel))

pub returns : goal.returns
returns c =
    absurd (omega (arith, (here (goal.at.returns c).At-loop).fuel))
