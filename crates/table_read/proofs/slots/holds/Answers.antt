-- A field of at most 64 bits is the number's low half; of more, its last 64 bits are, and the others its high half.
use mathlib.Core.Path.{sym, ap, ◌∙◌}
use Prim.Native.Nat.{ℕ}
use native.Mathlib.Omega.{arith}
use lib.Dec.{eqb}
use Rattle.keys.specs.Key.{key_number}
use Rattle.keys.specs.declared.Key.{Key}
use Rattle.table_read.specs.theory.Reads.{entry_differs, entry_halves}
use Rattle.table_read.proofs.slots.holds.Goals as goal
use Rattle.table_read.proofs.slots.holds.Goals.{Start}

-- the number as a key
key : Start → Key
key s = record { high = s.args.high; low = s.args.low }

pub returns-then-get-low : goal.returns-then-get-low
unfolding key_number key
returns-then-get-low c =
    sym (entry_differs c.args.t.now c.args.at c.args.n (key (goal.at.returns-then-get-low c).Start) (omega arith) (omega arith)
    (λ q. c.if-get-low.true (c.get-2.ensures ∙ q)))

pub returns : goal.returns
unfolding key_number key
returns c =
    ap (λ (x : ℕ). eqb x c.args.high) c.get-3.ensures
    ∙ entry_halves c.args.t.now c.args.at c.args.n (key (goal.at.returns c).Start) (omega arith) (omega arith)
    (sym c.get-2.ensures ∙ c.if-get-low.false)
