-- ⌈log2 n⌉ is what its name says: the least k with n ≤ 2 ^ k.
use Rattle.std.specs.Prelude.{◌≡◌, ℕ, zero, suc, ◌+◌, ◌-◌, ◌*◌, ◌/◌, ◌^◌, ◌<◌, ◌≤◌, nat_le}
use Rattle.std.proofs.Common.{pow-suc, lt_of_le_of_lt, arith, pow_mono, le-leb, leb-true}
use Rattle.std.proofs.Math.Decide.{dec_lt}
use Rattle.std.specs.Int.Count.{count_leading_zeros}
use Rattle.std.proofs.lemmas.Nat.{leading_le, leading_length}
use Rattle.settings.specs.Log.{ceil_log2}
use Rattle.settings.specs.theory.Least.{least_le, least_holds}

le_pow : (n : ℕ) → n < 2 ^ n
le_pow zero = omega arith
le_pow (suc n) = rw pow-suc (omega (arith, le_pow n))

pub log_holds : (n : ℕ) → n ≤ 2 ^ ceil_log2 n
unfolding ceil_log2
log_holds n =
    leb-true n _
    (least_holds (λ k. nat_le n (2 ^ k)) n 0 n (omega arith) (omega arith) (le-leb n (2 ^ n) (omega (arith, le_pow n))))

pub log_least : (n k : ℕ) → n ≤ 2 ^ k → ceil_log2 n ≤ k
unfolding ceil_log2
log_least n k h = least_le (λ k. nat_le n (2 ^ k)) n 0 k (le-leb n (2 ^ k) h) (omega arith)

-- the least, from both sides
log_is : (n k : ℕ) → n ≤ 2 ^ k → ((j : ℕ) → j < k → 2 ^ j < n) → ceil_log2 n ≡ k
log_is n k h below = pick (dec_lt (ceil_log2 n) k)
  where
    pick : Dec (ceil_log2 n < k) → ceil_log2 n ≡ k
    pick (yes l) = absurd (omega (arith, below (ceil_log2 n) l, log_holds n))
    pick (no l) = omega (arith, log_least n k h)

-- where the number less one has k bits
bits_are : (n k : ℕ) → 1 ≤ n → n - 1 < 2 ^ k → 2 ^ k ≤ 2 * (n - 1) + 1 → ceil_log2 n ≡ k
bits_are n zero l h k = log_is n 0 (omega (arith, h)) (λ j b. absurd (omega arith))
bits_are n (suc m) l h k =
    let d : 2 ^ suc m ≡ 2 ^ m * 2 = pow-suc 2 m in
    let above : 2 ^ m < n = omega (arith, d, k) in
    log_is n (suc m) (omega (arith, h)) (λ j b. lt_of_le_of_lt (pow_mono (omega arith)) above)

-- request 4's rule: as many bits as the number less one has behind its leading zeros, of the w that it stands in
pub leading_log : (w n : ℕ) → 1 ≤ n → n - 1 < 2 ^ w → w - count_leading_zeros w (n - 1) ≡ ceil_log2 n
leading_log w n l h =
    let b = leading_length w (n - 1) h in
    omega (arith, b.1, bits_are n b.0 l b.2 b.3)

-- a bit 1 that is put behind a number leaves its leading zeros
pub leading_behind : (w x y : ℕ) → y ≡ 2 * x + 1 → count_leading_zeros (suc w) y ≡ count_leading_zeros w x
unfolding count_leading_zeros
leading_behind w x zero e = absurd (omega arith)
leading_behind w x (suc n) e = let h : suc n / 2 ≡ x = omega arith in rw h

-- a number other than 0 has a bit behind them
pub leading_below : (w x : ℕ) → 1 ≤ x → count_leading_zeros (suc w) x ≤ w
unfolding count_leading_zeros
leading_below w zero l = absurd (omega arith)
leading_below w (suc n) l = leading_le w (suc n / 2)
