-- The place is that of the slot before.
use Rattle.std.proofs.Common.{ℕ, zero, suc, ◌≡◌, ◌+◌, ◌*◌, ◌-◌, ◌<◌, arith}
use Rattle.table_read.proofs.windows.first.Goals as goal

before : (at step j p : ℕ) → 0 < j → p ≡ at + j * step → p - step ≡ at + (j - 1) * step
before at step zero p h e = absurd (omega arith)
before at step (suc j) p h e = let k : suc j - 1 ≡ j = omega arith in rw k (omega arith)

pub is_sought-requires : goal.is_sought-requires
is_sought-requires g c = rw (before _ _ _ _ c.loop-j-test.true c.loop-j.invariant.0) (c.requires.0 (c.loop-j.j - 1) (omega arith))
