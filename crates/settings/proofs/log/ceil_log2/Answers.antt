-- 0 has width 0; that of other numbers the leading zeros tell.
use Rattle.std.proofs.Common.{ℕ, ◌-◌, ◌^◌, ◌<◌, ap, ◌∙◌, arith}
use lib.Count.{count_leading_zeros, leading_le}
use Rattle.settings.specs.theory.Logs.{log_least, leading_log, leading_behind, leading_below}
use Rattle.settings.proofs.log.ceil_log2.Goals as goal

pub returns-then-n-eq0 : goal.returns-then-n-eq0
returns-then-n-eq0 c = omega (arith, log_least c.args.n 0 (omega arith))

small : (x : ℕ) → count_leading_zeros 64 x < 2 ^ 64
small x = omega (arith, leading_le 64 x)

pub overflow_cast-result : goal.overflow_cast-result
overflow_cast-result c = record { fits = small _ }

pub overflow_sub-result : goal.overflow_sub-result
overflow_sub-result c = leading_below 63 _ (omega arith)

pub returns : goal.returns
returns c =
    let n = c.args.n in
    ap (λ (k : ℕ). 63 - k) (leading_behind 63 (n - 1) _ (omega arith)) ∙ leading_log 63 n (omega arith) (omega arith)
