-- Clause 1.3: ⌈log2 n⌉ is the least k with n ≤ 2 ^ k.
use Rattle.std.specs.Prelude.{ℕ, ◌^◌, nat_le}
use Rattle.settings.specs.Least.{least_from}

-- one of the first n numbers will do, since n ≤ 2 ^ (n - 1)
unfoldable pub ceil_log2 : ℕ → ℕ
ceil_log2 n = least_from (λ k. nat_le n (2 ^ k)) n 0
