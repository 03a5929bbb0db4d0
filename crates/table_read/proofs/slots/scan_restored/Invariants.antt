-- No slot that was passed holds the entry.
use mathlib.Core.Path.{◌≡◌}
use Prim.Native.Nat.{ℕ, ◌+◌, ◌*◌, ◌<◌}
use Rattle.bits.specs.Field.{field}
use Rattle.keys.specs.Key.{key_number}
use Rattle.table_read.specs.Steps.{restored_bytes}
use Rattle.table_read.proofs.slots.scan_restored.Given as goal

abbrev pub invariant-loop-j : goal.invariant-loop-j
invariant-loop-j l = (k : ℕ) → k < l.j → field (restored_bytes l.t l.b) (l.b.start + k * l.slot) l.bie ≡ key_number l.entry → ⊥
