-- The first slot that has the entry's bits is the entry's place in the slots.
use mathlib.Core.Path.{◌≡◌, sym, ap, ◌∙◌}
use Prim.Native.Nat.{ℕ, ◌+◌, ◌*◌, ◌≤◌, ◌<◌}
use native.Mathlib.Omega.{arith}
use mathlib.Core.List.{List}
use lib.ListN.{length}
use Rattle.table_read.specs.Rows.{Row}
use Rattle.keys.specs.Key.{key_number}
use Rattle.settings.specs.declared.layout.Layout.{Layout}
use Rattle.table.specs.Find.{position}
use Rattle.table.specs.Numbers.{basic_number}
use Rattle.table_read.specs.Steps.{First, slots_in, basic_run, find_from}
use Rattle.table_read.specs.theory.Reads.{slots_length, basic_run_within}
use Rattle.table_read.specs.theory.Rows.{fewer, none_first}
use Rattle.table_read.specs.theory.Finds.{find_held, find_none}
use Rattle.table_read.specs.theory.Scans.{basic_row, label_inside, plain_position, held_plain}
use Rattle.table_read.specs.declared.slots.Slots.{Slots}
use Rattle.table.specs.Answer.{said}
use Rattle.table.specs.declared.answers.Word.TheVariants as word
use Rattle.settings.specs.Legal.{most_bits}
use Rattle.table_find.proofs.search.find_short.Goals as goal
use Rattle.table.specs.Table.{Table}
use Rattle.table_find.proofs.search.find_short.Goals.{After-confirm-j, Then-j-count}

-- the slots b are the first of the basic block
module _ (g : Layout) (t : List ℕ) (i count e : ℕ) (T : Table g t) (below : i < g.lists) (room_for : count ≤ g.sib)
    (b : Slots) (is : b ≡ basic_run g i count) where
  all : b.count ≡ count
  unfolding basic_run
  all = ap (λ (x : Slots). x.count) is

  plain : b.displaced ≡ 0
  unfolding basic_run
  plain = ap (λ (x : Slots). x.displaced) is

  -- the block has room for sib slots
  room : Row t b.start g.slot g.bie g.sib
  unfolding basic_run
  room = rw is (basic_row g t T i below)

  row : (n : ℕ) → n ≤ g.sib → Row t b.start g.slot g.bie n
  row n h = fewer t b.start g.slot g.bie g.sib room n h

  -- the numbers of its slots
  abbrev numbers : ℕ → ℕ
  numbers = basic_number g i

  answer : find_from g numbers e (slots_in g t b) 0 ≡ find_from g numbers e (slots_in g t (basic_run g i count)) 0
  answer = ap (λ (x : Slots). find_from g numbers e (slots_in g t x) 0) is

  -- r is the first slot that holds the entry
  module _ (r : ℕ) (f : First t b.start g.slot g.bie e b.count r) where
    place : r ≡ position g e (slots_in g t b)
    place = plain_position g T.proper t b plain e r f

    none : b.count ≤ r → said word.None 0 r 0 ≡ find_from g numbers e (slots_in g t (basic_run g i count)) 0
    none h =
        let n = slots_length g t b in
        let l : r ≡ 0 + length (slots_in g t b) = omega (arith, f.high) in
        ap (λ (x : ℕ). said word.None 0 x 0) l ∙ sym (find_none g e numbers (slots_in g t b) 0 r place (omega arith)) ∙ answer

  -- the label of a slot
  inside : (r : ℕ) → r < b.count → let end = b.start + r * g.slot + g.bie + g.val in (end ≤ 8 * length t) × (end ≤ most_bits)
  inside r h =
      label_inside g T.proper t b r (rw is (basic_run_within g t T i count below room_for)) h

pub candidate-requires : goal.candidate-requires
unfolding key_number
candidate-requires c =
    (row c.args.g c.args.t.now c.args.i.0 c.args.count (key_number c.args.entry) c.requires.0 c.requires.1 c.requires.2 c.basic_run-run.result c.basic_run-run.ensures c.looked_at-n.result c.looked_at-n.ensures.1, c.requires.3)

pub not_held-requires : goal.not_held-requires
not_held-requires c =
    omega (arith, c.requires.2, c.requires.0.proper.sib_high)

pub returns-then-from-count : goal.returns-then-from-count
unfolding key_number
returns-then-from-count c =
    let a = c.args in
    let b = c.basic_run-run.result in
    let n = all c.args.g c.args.t.now c.args.i.0 c.args.count (key_number c.args.entry) c.requires.0 c.requires.1 c.requires.2 b c.basic_run-run.ensures in
    c.not_held.ensures ∙ ap (λ (x : ℕ). said word.None 0 x 0) (sym n)
    ∙ none c.args.g c.args.t.now c.args.i.0 c.args.count (key_number c.args.entry) c.requires.0 c.requires.1 c.requires.2 b c.basic_run-run.ensures b.count
    (none_first a.t.now b.start a.g.slot a.g.bie _ b.count c.candidate.result c.candidate.ensures.before (omega (arith, c.if-from-count.true)))
    (omega arith)

pub confirm-j-requires : goal.confirm-j-requires
unfolding key_number
confirm-j-requires c =
    let n = all c.args.g c.args.t.now c.args.i.0 c.args.count (key_number c.args.entry) c.requires.0 c.requires.1 c.requires.2 c.basic_run-run.result c.basic_run-run.ensures in record { row = (row c.args.g c.args.t.now c.args.i.0 c.args.count (key_number c.args.entry) c.requires.0 c.requires.1 c.requires.2 c.basic_run-run.result c.basic_run-run.ensures c.basic_run-run.result.count (omega (arith, c.requires.2)), c.requires.3, omega (arith, c.if-from-count.false)); by_index = c.candidate.ensures.before }

-- a slot is found among those in use, or none is
few : (f : After-confirm-j) → f.confirm-j.result.0 ≤ f.args.count
few f =
    omega (arith, f.confirm-j.ensures.high, all f.args.g f.args.t.now f.args.i.0 f.args.count (key_number f.args.entry) f.requires.0 f.requires.1 f.requires.2 f.basic_run-run.result f.basic_run-run.ensures)

few_at_then2 : (f : Then-j-count) → f.confirm-j.result.0 ≤ f.args.count
few_at_then2 f =
    omega (arith, f.confirm-j.ensures.high, all f.args.g f.args.t.now f.args.i.0 f.args.count (key_number f.args.entry) f.requires.0 f.requires.1 f.requires.2 f.basic_run-run.result f.basic_run-run.ensures)

label_in_lem : (c : Then-j-count)
    → let a = c.args in
    let end = c.basic_run-run.result.start + c.confirm-j.result.0 * a.g.slot + a.g.bie + a.g.val in (end ≤ 8 * length a.t.now) × (end ≤ most_bits)
label_in_lem c =
    inside c.args.g c.args.t.now c.args.i.0 c.args.count (key_number c.args.entry) c.requires.0 c.requires.1 c.requires.2 c.basic_run-run.result c.basic_run-run.ensures c.confirm-j.result.0 (omega (arith, c.if-j-count.true, few_at_then2 c, all c.args.g c.args.t.now c.args.i.0 c.args.count (key_number c.args.entry) c.requires.0 c.requires.1 c.requires.2 c.basic_run-run.result c.basic_run-run.ensures))

pub overflow_mul-j : goal.overflow_mul-j
overflow_mul-j c = omega (arith, label_in_lem (goal.at.overflow_mul-j c).Then-j-count)

pub overflow_add-run : goal.overflow_add-run
overflow_add-run c = omega (arith, label_in_lem (goal.at.overflow_add-run c).Then-j-count)

pub overflow_add-run-then-j-count : goal.overflow_add-run-then-j-count
overflow_add-run-then-j-count c = omega (arith, label_in_lem (goal.at.overflow_add-run-then-j-count c).Then-j-count)

pub overflow_add-j : goal.overflow_add-j
overflow_add-j c =
    omega (arith, few (goal.at.overflow_add-j c).After-confirm-j, c.requires.2, c.requires.0.proper.sib_high)

pub basic_number-requires : goal.basic_number-requires
basic_number-requires c =
    (c.requires.0.proper, c.requires.1, omega (arith, c.if-j-count.true, c.requires.2))

pub held-requires : goal.held-requires
held-requires c =
    ((label_in_lem (goal.at.held-requires c).Then-j-count).0, c.requires.0.proper.val_high, omega (arith, few (goal.at.held-requires c).After-confirm-j, c.requires.2, c.requires.0.proper.sib_high))

pub returns-then-j-count : goal.returns-then-j-count
returns-then-j-count c =
    let g = c.args.g in
    let t = c.args.t.now in
    let b = c.basic_run-run.result in
    let is = c.basic_run-run.ensures in
    let j = c.confirm-j.result.0 in
    let h : j < b.count = omega (arith, c.if-j-count.true, few (goal.at.returns-then-j-count c).After-confirm-j, all c.args.g c.args.t.now c.args.i.0 c.args.count (key_number c.args.entry) c.requires.0 c.requires.1 c.requires.2 b is) in
    c.held.ensures
    ∙ ap (said word.Held _ _) c.basic_number.ensures
    ∙ held_plain g c.requires.0.proper t b (plain c.args.g c.args.t.now c.args.i.0 c.args.count (key_number c.args.entry) c.requires.0 c.requires.1 c.requires.2 b is) j _ 0 h (omega arith)
    ∙ sym (find_held g (key_number c.args.entry) (numbers c.args.g c.args.t.now c.args.i.0 c.args.count (key_number c.args.entry) c.requires.0 c.requires.1 c.requires.2 b is) (slots_in g t b) 0 j (place c.args.g c.args.t.now c.args.i.0 c.args.count (key_number c.args.entry) c.requires.0 c.requires.1 c.requires.2 b is j c.confirm-j.ensures) (omega (arith, slots_length g t b)))
    ∙ answer c.args.g c.args.t.now c.args.i.0 c.args.count (key_number c.args.entry) c.requires.0 c.requires.1 c.requires.2 b is

pub not_held-requires-2 : goal.not_held-requires-2
not_held-requires-2 c =
    omega (arith, few (goal.at.not_held-requires-2 c).After-confirm-j, c.requires.2, c.requires.0.proper.sib_high)

pub returns : goal.returns
returns c =
    c.not_held-2.ensures ∙ none c.args.g c.args.t.now c.args.i.0 c.args.count (key_number c.args.entry) c.requires.0 c.requires.1 c.requires.2 c.basic_run-run.result c.basic_run-run.ensures c.confirm-j.result.0 c.confirm-j.ensures (omega (arith, c.if-j-count.false, all c.args.g c.args.t.now c.args.i.0 c.args.count (key_number c.args.entry) c.requires.0 c.requires.1 c.requires.2 c.basic_run-run.result c.basic_run-run.ensures))
