-- The least number with a property.
use Rattle.std.specs.Prelude.{ℕ, zero, suc, Bool, cond}

-- the least of the numbers from k on that has the property P, where one of the first `turns` has it
unfoldable pub least_from : (ℕ → Bool) → ℕ → ℕ → ℕ
least_from P zero k = k
least_from P (suc turns) k = cond (P k) k (least_from P turns (suc k))
