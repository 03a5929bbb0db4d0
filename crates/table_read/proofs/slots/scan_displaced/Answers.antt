-- Slot 0 by itself; the slots behind it stand behind the displaced bits, and are found as they are.
use mathlib.Core.Path.{◌≡◌, sym, ◌∙◌}
use mathlib.Core.Logic.{inr}
use Prim.Native.Nat.{ℕ, suc, ◌+◌, ◌*◌, ◌≤◌, ◌<◌}
use native.Mathlib.Omega.{arith}
use native.Mathlib.Nat.{mul-le-mul_right}
use borrow.Author.Tests.{eqb-false}
use Rattle.bits.specs.Field.{field}
use Rattle.bits.specs.theory.Puts.{put_out}
use Rattle.keys.specs.Key.{key_number}
use Rattle.table_read.specs.Steps.{restored_bytes}
use Rattle.table_read.specs.theory.Rows.{found_behind}
use Rattle.table_read.proofs.slots.scan_displaced.Goals as goal
use Rattle.table_read.proofs.slots.scan_displaced.Goals.{Start}

-- no displaced bit is in the slots behind slot 0
plain : (s : Start) → s.args.b.displaced < s.args.bie → (k : ℕ) → 0 < k → k < s.args.b.count
    → field (restored_bytes s.args.t.now s.args.b) (s.args.b.start + k * s.args.slot) s.args.bie
    ≡ field s.args.t.now (s.args.b.start + k * s.args.slot) s.args.bie
unfolding restored_bytes
plain s h k l m =
    let f = s.requires.row.0.fits in
    let o : suc 0 * s.args.slot ≤ k * s.args.slot = mul-le-mul_right s.args.slot l in
    put_out s.args.t.now s.args.b.start s.args.b.displaced s.args.b.value (s.args.b.start + k * s.args.slot) s.args.bie s.requires.displaced_bound.0
    (inr (omega arith))

pub returns : goal.returns
unfolding key_number
returns c =
    found_behind c.args.t.now _ c.args.b.start c.args.slot c.args.bie _ c.args.b.count c.scan-j.result.0
    (eqb-false _ _ (sym c.first_holds.ensures ∙ c.if-first_holds.false)) c.requires.row.1 (plain (goal.at.returns c).Start (omega (arith, c.if-b-bie.false))) c.scan-j.ensures
