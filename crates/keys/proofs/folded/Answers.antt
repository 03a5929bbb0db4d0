-- Each word is below 2 ^ 32, so the sum is below 22,023 * 2 ^ 32, and its product with a below 22,023 * 2 ^ 48.
use Prim.Native.Nat.{◌+◌, ◌*◌, ◌/◌, ◌%◌, ◌^◌, ◌≤◌}
use native.Mathlib.Nat.{mul-le-mul_right}
use native.Mathlib.Omega.{arith}
use Rattle.keys.proofs.folded.Goals as goal
use Rattle.keys.proofs.folded.Goals.{Start}

record Bounds (s : Start) : Type 0 where
  one : s.args.low / 2 ^ 32 * s.args.c1 ≤ 4294967295 * s.args.c1
  two : s.args.high % 2 ^ 32 * s.args.c2 ≤ 4294967295 * s.args.c2
  three : s.args.high / 2 ^ 32 * s.args.c3 ≤ 4294967295 * s.args.c3

bounds : (s : Start) → Bounds s
bounds s =
    record {
      one = mul-le-mul_right s.args.c1 (omega arith);
      two = mul-le-mul_right s.args.c2 (omega arith);
      three = mul-le-mul_right s.args.c3 (omega arith);
    }

product : (s : Start) → s.args.a * (s.args.low % 2 ^ 32 + s.args.low / 2 ^ 32 * s.args.c1 + s.args.high % 2 ^ 32 * s.args.c2
    + s.args.high / 2 ^ 32 * s.args.c3) ≤ 65536 * (s.args.low % 2 ^ 32 + s.args.low / 2 ^ 32 * s.args.c1 + s.args.high % 2 ^ 32 * s.args.c2
    + s.args.high / 2 ^ 32 * s.args.c3)
product s = mul-le-mul_right ((s.args.low % 2 ^ 32 + s.args.low / 2 ^ 32 * s.args.c1 + s.args.high % 2 ^ 32 * s.args.c2
    + s.args.high / 2 ^ 32 * s.args.c3)) s.requires.0

pub overflow_mul-sum : goal.overflow_mul-sum
overflow_mul-sum c = omega (arith, bounds (goal.at.overflow_mul-sum c).Start)

pub overflow_add-sum : goal.overflow_add-sum
overflow_add-sum c = omega (arith, bounds (goal.at.overflow_add-sum c).Start)

pub overflow_mul-sum-2 : goal.overflow_mul-sum-2
overflow_mul-sum-2 c = omega (arith, bounds (goal.at.overflow_mul-sum-2 c).Start)

pub overflow_add-sum-2 : goal.overflow_add-sum-2
overflow_add-sum-2 c = omega (arith, bounds (goal.at.overflow_add-sum-2 c).Start)

pub overflow_mul-sum-3 : goal.overflow_mul-sum-3
overflow_mul-sum-3 c = omega (arith, bounds (goal.at.overflow_mul-sum-3 c).Start)

pub overflow_add-sum-3 : goal.overflow_add-sum-3
overflow_add-sum-3 c = omega (arith, bounds (goal.at.overflow_add-sum-3 c).Start)

pub overflow_mul-result : goal.overflow_mul-result
overflow_mul-result c =
    rw c.from.ensures (omega (arith, bounds (goal.at.overflow_mul-result c).Start, product (goal.at.overflow_mul-result c).Start))

pub overflow_add-result : goal.overflow_add-result
overflow_add-result c =
    rw (c.from.ensures, c.from-2.ensures) (omega (arith, bounds (goal.at.overflow_add-result c).Start, product (goal.at.overflow_add-result c).Start))
