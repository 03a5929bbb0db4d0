-- One behind the other.
use Prim.Native.Nat.{ℕ, ◌/◌, ◌%◌, ◌^◌, ◌≤◌, ◌<◌}
use native.Mathlib.Omega.{arith}
use lib.ListN.{length}
use Rattle.text_write.specs.Decimal.{decimal_text}
use Rattle.text_write.proofs.Decimals.{count_within}
use Rattle.text_write.proofs.mapped.decimal_ends.Goals as goal

-- a decimal has at most three digits
within : (n : ℕ) → n < 256 → length (decimal_text n) ≤ 3
within n h = (count_within n h).1

pub decimal_end-second-requires : goal.decimal_end-second-requires
decimal_end-second-requires c =
    let x : ℕ = c.last_four-x.result in
    (omega (arith, c.decimal_end-first.ensures, within (x / 2 ^ 24) (omega arith)), omega arith)

pub decimal_end-third-requires : goal.decimal_end-third-requires
decimal_end-third-requires c =
    let x : ℕ = c.last_four-x.result in
    (omega (arith, c.decimal_end-first.ensures, c.decimal_end-second.ensures, within (x / 2 ^ 24) (omega arith), within (x / 2 ^ 16 % 256) (omega arith)), omega arith)

pub decimal_end-last-requires : goal.decimal_end-last-requires
decimal_end-last-requires c =
    let x : ℕ = c.last_four-x.result in (
      omega (
        arith,
        c.decimal_end-first.ensures,
        c.decimal_end-second.ensures,
        c.decimal_end-third.ensures,
        within (x / 2 ^ 24) (omega arith),
        within (x / 2 ^ 16 % 256) (omega arith),
        within (x / 2 ^ 8 % 256) (omega arith),
      ),
      omega arith,
    )
