-- Clause 2.4: the smallest prime above 2 ^ bii.
use Rattle.std.specs.Prelude.{ℕ, zero, suc, ◌+◌, ◌%◌, ◌^◌, Bool, true, cond, not, ◌&&◌, ◌==◌, nat_le}
use Rattle.settings.specs.Least.{least_from}

-- no number from 2 on and below m divides n
unfoldable pub none_divides : ℕ → ℕ → Bool
none_divides zero n = true
none_divides (suc d) n = cond (nat_le 2 d) (not (n % d == 0) && none_divides d n) true

unfoldable pub is_prime : ℕ → Bool
is_prime n = nat_le 2 n && none_divides n n

-- one of the 2 ^ k numbers above 2 ^ k is prime
unfoldable pub prime_above : ℕ → ℕ
prime_above k = least_from is_prime (2 ^ k) (2 ^ k + 1)
