-- The list has an end, whose link is the basic block's first bits; the entry is in that block's slots, or in those that follow.
use mathlib.Core.Path.{◌≡◌, refl, sym, ap, ap₂, ◌∙◌}
use Prim.Native.Nat.{ℕ, ◌+◌, ◌*◌, ◌≤◌}
use native.Mathlib.Omega.{arith}
use lib.ListN.{length}
use Rattle.keys.specs.Key.{key_number}
use Rattle.table.specs.Decode.{decode}
use Rattle.table.specs.Find.{position}
use Rattle.table_read.specs.Steps.{restored_bytes, SlotsWithin, slots_in, displaced_run, last_from}
use Rattle.table_read.specs.theory.Reads.{displaced_run_within, head_lt, link_lt}
use Rattle.table_read.specs.theory.Walks.{followed, ended_own}
use Rattle.table_read.specs.theory.Lasts.{EndsAt, ends_at, no_end}
use Rattle.table_read.specs.theory.Finds.{find_bad, find_first, find_rest}
use Rattle.table_read.specs.theory.Scans.{run_row, label_inside, first_position, held_restored}
use Rattle.table_read.specs.declared.slots.Slots.{Slots}
use Rattle.table.specs.Answer.{said}
use Rattle.table.specs.declared.answers.Word.TheVariants as word
use Rattle.settings.specs.Legal.{most_bits}
use Rattle.std.proofs.lemmas.Result.{err_from_is_err_and}
use Rattle.table_find.proofs.search.find_long.Goals as goal
use Rattle.table_find.proofs.search.find_long.Goals.{After-displaced_run-run, After-scan_displaced-j, In_ok-last, Then-j-g}

-- the list's last block
end : (c : In_ok-last) → let a = c.args in
    EndsAt a.g (last_from a.g a.i.0 a.g.nob (decode a.g a.t.now).overflow a.first.0) c.in_ok-last.last
end c = ends_at _ _ _ (sym c.follow.ensures ∙ c.in_ok-last.was)

end_at_after_displaced_run : (c : After-displaced_run-run) → let a = c.args in
    EndsAt a.g (last_from a.g a.i.0 a.g.nob (decode a.g a.t.now).overflow a.first.0) c.in_ok-last.last
end_at_after_displaced_run c = ends_at _ _ _ (sym c.follow.ensures ∙ c.in_ok-last.was)

-- the basic block's slots
run_within : (c : After-displaced_run-run)
    → (let s = c.args in SlotsWithin s.g s.t.now c.displaced_run-run.result)
run_within c =
    let f = link_lt c.args.g c.args.t.now c.requires.0 c.in_ok-last.last.0 (end_at_after_displaced_run c).low in
    rw c.displaced_run-run.ensures
    (displaced_run_within c.args.g c.args.t.now c.requires.0 c.args.i.0 _ c.requires.1
    (omega (arith, c.overflow_link-displaced.ensures, f, c.requires.2.head, head_lt c.args.g c.args.t.now c.requires.0 c.args.i.0 c.requires.1)))

all : (c : After-displaced_run-run) → c.displaced_run-run.result.count ≡ c.args.g.sib
unfolding displaced_run
all c = ap (λ (r : Slots). r.count) c.displaced_run-run.ensures

-- the entry's place in them
place : (d : After-scan_displaced-j)
    → (let s = d.args in
    d.scan_displaced-j.result.0 ≡ position s.g (key_number s.entry) (slots_in s.g s.t.now d.displaced_run-run.result))
unfolding restored_bytes key_number
place d =
    first_position d.args.g d.requires.0.proper d.args.t.now d.displaced_run-run.result
    (key_number d.args.entry) d.scan_displaced-j.result.0 d.scan_displaced-j.ensures

end_at_then1 : (c : Then-j-g) → let a = c.args in
    EndsAt a.g (last_from a.g a.i.0 a.g.nob (decode a.g a.t.now).overflow a.first.0) c.in_ok-last.last
end_at_then1 c = ends_at _ _ _ (sym c.follow.ensures ∙ c.in_ok-last.was)

run_within_at_then1 : (c : Then-j-g)
    → (let s = c.args in SlotsWithin s.g s.t.now c.displaced_run-run.result)
run_within_at_then1 c =
    let f = link_lt c.args.g c.args.t.now c.requires.0 c.in_ok-last.last.0 (end_at_then1 c).low in
    rw c.displaced_run-run.ensures
    (displaced_run_within c.args.g c.args.t.now c.requires.0 c.args.i.0 _ c.requires.1
    (omega (arith, c.overflow_link-displaced.ensures, f, c.requires.2.head, head_lt c.args.g c.args.t.now c.requires.0 c.args.i.0 c.requires.1)))

all_at_then1 : (c : Then-j-g) → c.displaced_run-run.result.count ≡ c.args.g.sib
unfolding displaced_run
all_at_then1 c = ap (λ (r : Slots). r.count) c.displaced_run-run.ensures

-- and the label of the slot found
inside : (c : Then-j-g)
    → (let s = c.args in
    let end = c.displaced_run-run.result.start + c.scan_displaced-j.result.0 * s.g.slot + s.g.bie + s.g.val in (end ≤ 8 * length s.t.now) × (end ≤ most_bits))
inside c =
    label_inside c.args.g c.requires.0.proper c.args.t.now c.displaced_run-run.result c.scan_displaced-j.result.0
    (run_within_at_then1 c) (omega (arith, c.if-j-g.true, all_at_then1 c))

pub returns-in_err-last : goal.returns-in_err-last
returns-in_err-last c =
    let p = err_from_is_err_and c.from_residual.result c.from_residual.ensures.1 in
    rw (p.1, p.2)
    (find_bad c.args.g c.args.t.now c.requires.0 c.args.i.0 (key_number c.args.entry) c.requires.1
    c.args.first.0 _ c.requires.2 refl (no_end c.args.g _ (sym c.follow.ensures ∙ c.in_err-last.was)))

pub overflow_link-displaced-requires : goal.overflow_link-displaced-requires
overflow_link-displaced-requires c = (c.requires.0, (end (goal.at.overflow_link-displaced-requires c).In_ok-last).low)

pub scan_displaced-j-requires : goal.scan_displaced-j-requires
unfolding key_number
scan_displaced-j-requires c =
    let R = run_within (goal.at.scan_displaced-j-requires c).After-displaced_run-run in
    record { row = (run_row c.args.g c.requires.0.proper c.args.t.now c.displaced_run-run.result R, omega (arith, all (goal.at.scan_displaced-j-requires c).After-displaced_run-run, c.requires.0.proper.sib_low), c.requires.3); displaced_bound = (R.block, R.narrow, R.fits) }

pub overflow_mul-j : goal.overflow_mul-j
overflow_mul-j c = omega (arith, inside (goal.at.overflow_mul-j c).Then-j-g)

pub overflow_add-run : goal.overflow_add-run
overflow_add-run c = omega (arith, inside (goal.at.overflow_add-run c).Then-j-g)

pub overflow_add-run-then-j-g : goal.overflow_add-run-then-j-g
overflow_add-run-then-j-g c = omega (arith, inside (goal.at.overflow_add-run-then-j-g c).Then-j-g)

pub label_at-requires : goal.label_at-requires
label_at-requires c =
    let R = run_within (goal.at.label_at-requires c).After-displaced_run-run in (
      record {
        from = omega arith;
        ends = (inside (goal.at.label_at-requires c).Then-j-g).0;
        near = (inside (goal.at.label_at-requires c).Then-j-g).1;
        block = R.block;
        narrow = R.narrow;
        fits = R.fits;
      },
      c.requires.0.proper.val_high,
    )

pub overflow_cast-result : goal.overflow_cast-result
overflow_cast-result c =
    omega (arith, c.if-j-g.true, c.requires.0.proper.sib_high)

pub basic_number-requires : goal.basic_number-requires
basic_number-requires c =
    (c.requires.0.proper, c.requires.1, c.if-j-g.true)

pub returns-then-j-g : goal.returns-then-j-g
returns-then-j-g c =
    let j = c.scan_displaced-j.result.0 in
    ap₂ (λ (x y : ℕ). said word.Held x (j + 1) y) c.label_at.ensures c.basic_number.ensures
    ∙ held_restored c.args.g c.requires.0.proper c.args.t.now c.displaced_run-run.result j (j + 1) 0 (omega (arith, c.if-j-g.true, all (goal.at.returns-then-j-g c).After-displaced_run-run)) (omega arith)
    ∙ find_first c.args.g c.args.t.now c.requires.0 c.args.i.0 (key_number c.args.entry) c.requires.1
    c.args.first.0 c.in_ok-last.last.0 c.requires.2 (end (goal.at.returns-then-j-g c).In_ok-last).is
    c.overflow_link-displaced.result j c.displaced_run-run.result
    (end (goal.at.returns-then-j-g c).In_ok-last).low c.overflow_link-displaced.ensures c.displaced_run-run.ensures (place (goal.at.returns-then-j-g c).After-scan_displaced-j) c.if-j-g.true

pub find_blocks-requires : goal.find_blocks-requires
find_blocks-requires c = (
  c.requires.0,
  ended_own c.args.g (decode c.args.g c.args.t.now).overflow c.args.i.0
      (followed c.args.g (decode c.args.g c.args.t.now).overflow c.args.i.0 c.args.g.nob c.args.first.0 (omega (arith, (end (goal.at.find_blocks-requires c).In_ok-last).is, (end (goal.at.find_blocks-requires c).In_ok-last).low))),
  c.requires.3,
  c.requires.0.proper.sib_high,
)

pub returns : goal.returns
returns c =
    c.find_blocks.ensures
    ∙ find_rest c.args.g c.args.t.now c.requires.0 c.args.i.0 (key_number c.args.entry) c.requires.1
    c.args.first.0 c.in_ok-last.last.0 c.requires.2 (end (goal.at.returns c).In_ok-last).is
    c.overflow_link-displaced.result c.scan_displaced-j.result.0 c.displaced_run-run.result
    (end (goal.at.returns c).In_ok-last).low c.overflow_link-displaced.ensures c.displaced_run-run.ensures (place (goal.at.returns c).After-scan_displaced-j) c.if-j-g.false
