-- The bits of both halves side by side are those of the number (`across_two`).
use Prim.Native.Nat.{◌-◌}
use native.Mathlib.Nat.{mod-lt}
use native.Mathlib.Omega.{arith}
use lib.Pow.{pow_pos}
use Rattle.bits.specs.theory.Numbers.{across_two}
use Rattle.bits.proofs.number.across.Goals as goal
use Rattle.bits.proofs.number.across.Goals.{Start}

pub returns : goal.returns
returns c =
    let a = c.args in
    across_two a.high a.low (64 - a.k) a.k 64 (omega arith) (omega arith)

pub overflow_add-result : goal.overflow_add-result
overflow_add-result c = record { fits = rw (returns (goal.at.overflow_add-result c).Start) (mod-lt _ (pow_pos 64)) }
