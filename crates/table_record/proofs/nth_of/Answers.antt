-- There are as many slots as the count says.
use mathlib.Core.Path.{◌≡◌, sym, ap, ap₂, ◌∙◌}
use Prim.Native.Nat.{ℕ, ◌-◌, ◌<◌}
use native.Mathlib.Omega.{arith}
use lib.ListN.{length}
use Rattle.table_read.specs.Steps.{slots_in}
use Rattle.table_read.specs.theory.Reads.{slots_length, entry_bound}
use Rattle.table_record.proofs.Records.{nth_here, nth_past}
use Rattle.table_record.specs.declared.Nth.TheVariants as nth
use Rattle.table_record.proofs.nth_of.Goals as goal

pub returns-then-n-count : goal.returns-then-n-count
returns-then-n-count c =
    let a = c.args in
    let es = slots_in a.g a.t.now a.b in
    let l : length es ≡ a.b.count = slots_length a.g a.t.now a.b in
    (sym (nth_past a.g es a.n (omega arith) ∙ ap (λ (k : ℕ). nth.Past (a.n - k)) l), tt)

pub returns : goal.returns
returns c =
    let a = c.args in
    let es = slots_in a.g a.t.now a.b in
    let h : a.n < a.b.count = omega (arith, c.if-n-count.false) in
    let l : a.n < length es = omega (arith, slots_length a.g a.t.now a.b) in (
      ap₂ nth.Slot c.entry_in.ensures c.label_in.ensures ∙ sym (nth_here a.g es a.n l),
      entry_bound a.g a.t.now a.b c.requires.0 a.n h _ c.entry_in.ensures,
    )
