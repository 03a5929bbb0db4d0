-- The last bits stand behind the displaced ones; if they are the number's, the whole slot is compared.
use mathlib.Core.Path.{sym, ap, ◌∙◌}
use Prim.Native.Nat.{ℕ, ◌+◌, ◌-◌, ◌%◌, ◌^◌, ◌≤◌, ◌<◌}
use native.Mathlib.Omega.{arith}
use Rattle.keys.specs.Key.{key_number}
use Rattle.keys.specs.theory.Halves.{mod_low}
use Rattle.table_read.specs.Steps.{restored_bytes, FieldWithin}
use Rattle.table_read.specs.theory.Reads.{restored_bytes_out, last_differ}
use Rattle.table_read.proofs.slots.first_holds.Goals as goal
use Rattle.table_read.proofs.slots.first_holds.Goals.{Start}

-- the last m bits of its entry
last_within : (s : Start) (m : ℕ) → m ≤ s.args.bie → FieldWithin s.args.t.now s.args.b (s.args.b.start + (s.args.bie - m)) m
last_within s m h =
    let v = s.requires.0 in
    record {
      from = omega arith;
      ends = omega (arith, v.ends);
      near = omega (arith, v.near);
      block = v.block;
      narrow = v.narrow;
      fits = v.fits;
    }

pub returns-then-get_short-entry : goal.returns-then-get_short-entry
unfolding key_number
returns-then-get_short-entry c =
    let a = c.args in
    let m : ℕ = c.min-m.result in
    let h : m ≤ a.bie = omega (arith, c.min-m.ensures) in
    let i : m ≤ 63 = omega (arith, c.min-m.ensures) in
    let l : a.entry.low < 2 ^ 64 = omega arith in
    sym (last_differ (restored_bytes a.t.now a.b) a.b.start a.bie m (key_number a.entry) h
    (λ q. c.if-get_short-entry.true
    (c.get_short.ensures
    ∙ restored_bytes_out a.t.now a.b (a.b.start + (a.bie - m)) m (last_within (goal.at.returns-then-get_short-entry c).Start m h) (omega (arith, c.min-m.ensures, c.requires.3))
    ∙ q
    ∙ mod_low a.entry.high l i
    ∙ ap (λ (x : ℕ). a.entry.low % x) (sym c.pow.ensures))))
