-- Up to 128 bits it is two words (`slot_words`) in one store. Of more the label goes first, and the entry before it.
use mathlib.Core.Path.{◌≡◌, refl, ap, ap₂, ◌∙◌}
use Prim.Native.Nat.{ℕ, ◌+◌, ◌*◌, ◌^◌}
use native.Mathlib.Nat.{zero-add}
use native.Mathlib.Omega.{arith}
use Rattle.table.specs.theory.Written.{join_fits}
use Rattle.bits.specs.Put.{put_field}
use Rattle.table_store.specs.theory.StoreLaws.{slot_words, entry_high, put_back}
use Rattle.table_store.proofs.slots.put_slot.Goals as goal
use Rattle.table_store.proofs.slots.put_slot.Goals.{After-below}

pub above-requires : goal.above-requires
above-requires c =
    let a = c.args in
    (c.requires.3, entry_high a.high a.low a.bie a.val c.requires.3 (omega arith) (omega arith) c.requires.4)

-- the two words are the slot
words : (c : After-below) → let a = c.args in
    c.above.result * 2 ^ 64 + c.below.result ≡ (a.high * 2 ^ 64 + a.low) * 2 ^ a.val + a.label
words c =
    let a = c.args in
    ap₂ (λ (x y : ℕ). x * 2 ^ 64 + y) c.above.ensures c.below.ensures ∙ slot_words a.val c.requires.3 a.high a.low a.label

pub put_wide-requires : goal.put_wide-requires
put_wide-requires c =
    let a = c.args in
    (omega arith, omega arith, omega arith, rw (words (goal.at.put_wide-requires c).After-below) (join_fits a.bie a.val c.requires.4 c.requires.5))

pub returns-then-n-le128 : goal.returns-then-n-le128
returns-then-n-le128 c =
    let a = c.args in
    c.put_wide.ensures ∙ ap (put_field a.t.now a.at (a.bie + a.val)) (words (goal.at.returns-then-n-le128 c).After-below)

pub returns : goal.returns
returns c =
    let a = c.args in
    put_back a.t.now _ _ a.at a.bie (a.at + a.bie) a.val (a.bie + a.val) (a.high * 2 ^ 64 + a.low) (0 + a.label) _
    (λ j. omega (arith, c.slice_known-1.given j)) (omega arith) refl refl (rw zero-add c.requires.5) (ap (λ (y : ℕ). (a.high * 2 ^ 64 + a.low) * 2 ^ a.val + y) (omega arith))
    (rw c.from.ensures at c.put_wide-2.ensures)
    c.put_wide-3.ensures
