-- No bit of high is shifted out, and the bits of low that are not shifted out fit below it.
use mathlib.Core.Path.{◌≡◌}
use Prim.Native.Nat.{◌-◌, ◌*◌, ◌%◌, ◌^◌}
use native.Mathlib.Omega.{arith}
use lib.Pow.{shl_exact}
use Rattle.table_store.specs.theory.StoreLaws.{high_word}
use Rattle.table_store.proofs.slots.above.Goals as goal
use Rattle.table_store.proofs.slots.above.Goals.{Start}

-- the shift of high loses nothing
exact : (s : Start) → s.args.high * 2 ^ s.args.val % 2 ^ 64 ≡ s.args.high * 2 ^ s.args.val
exact s = shl_exact (64 - s.args.val) s.args.val 64 s.requires.1 (omega arith)

pub overflow_add-result : goal.overflow_add-result
overflow_add-result c =
    record { fits = rw (exact (goal.at.overflow_add-result c).Start) (high_word c.args.val c.requires.0 c.args.high c.args.low c.requires.1 (omega arith)) }

pub returns : goal.returns
returns c = rw (exact (goal.at.returns c).Start)
