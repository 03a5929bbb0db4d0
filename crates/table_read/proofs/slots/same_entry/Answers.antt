-- A field of at most 64 bits is the entry's low half; of more, its last 64 bits are, and the others its high half.
use mathlib.Core.Path.{sym, ap, ap₂, ◌∙◌}
use Prim.Native.Nat.{ℕ}
use native.Mathlib.Omega.{arith}
use lib.Dec.{eqb}
use Rattle.table_read.specs.Steps.{restored_bytes}
use Rattle.table_read.specs.theory.Reads.{entry_low, entry_differs, entry_halves}
use Rattle.table_read.proofs.slots.same_entry.Goals as goal

pub returns-then-n-le64 : goal.returns-then-n-le64
returns-then-n-le64 c =
    ap₂ eqb c.restored.ensures (sym (entry_low c.args.entry c.args.n (omega arith) c.requires.2))

pub returns-then-restored-entry : goal.returns-then-restored-entry
returns-then-restored-entry c =
    sym (entry_differs (restored_bytes c.args.t.now c.args.b) c.args.at c.args.n c.args.entry (omega arith) (omega arith)
    (λ q. c.if-restored-entry.true (c.restored-2.ensures ∙ q)))

pub returns : goal.returns
returns c =
    ap (λ (x : ℕ). eqb x c.args.entry.high) c.restored-3.ensures
    ∙ entry_halves (restored_bytes c.args.t.now c.args.b) c.args.at c.args.n c.args.entry (omega arith) (omega arith)
    (sym c.restored-2.ensures ∙ c.if-restored-entry.false)
