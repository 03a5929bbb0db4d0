-- The decimal digits of a byte: how many they are, and three of them, of which the last count.
use mathlib.Core.Path.{◌≡◌}
use mathlib.Core.List.{List, ◌∷◌, ◌++◌}
use Prim.Native.Nat.{ℕ, ◌+◌, ◌-◌, ◌/◌, ◌%◌, ◌≤◌, ◌<◌}
use native.Mathlib.Omega.{arith}
use lib.ListN.{length, drop}
use lib.Dec.{ltb}
use borrow.Author.Tests.{lt-ltb, le-ltb}
use Rattle.std.specs.Int.{from_bool}
use Rattle.text_write.specs.Decimal.{decimal_text}
use Rattle.text_write.specs.theory.Decimal.{by_count, decimal_one, decimal_two, decimal_three}

module _ (n : ℕ) (h : n < 256) where
  -- one digit, and one more from 10 and from 100 on
  pub count_is : 1 + from_bool (ltb 9 n) + from_bool (ltb 99 n) ≡ length (decimal_text n)
  count_is =
      by_count n (λ l. rw (decimal_one n l, le-ltb 9 n (omega arith), le-ltb 99 n (omega arith)))
      (λ k l. rw (decimal_two n k l, lt-ltb 9 n k, le-ltb 99 n (omega arith)))
      (λ k. rw (decimal_three n k (omega arith), lt-ltb 9 n (omega arith), lt-ltb 99 n k))

  pub count_within : (1 ≤ length (decimal_text n)) × (length (decimal_text n) ≤ 3)
  count_within =
      by_count n (λ l. rw (decimal_one n l) (omega arith, omega arith)) (λ k l. rw (decimal_two n k l) (omega arith, omega arith))
      (λ k. rw (decimal_three n k (omega arith)) (omega arith, omega arith))

  -- of three digits, those that count
  pub last_digits : (l : List ℕ) → drop (3 - length (decimal_text n)) ((48 + n / 100) ∷ (48 + n / 10 % 10) ∷ (48 + n % 10) ∷ l) ≡ decimal_text n ++ l
  last_digits l =
      by_count n
      (λ k.
      let e : n % 10 ≡ n = omega arith in
      rw (decimal_one n k, e))
      (λ j k.
      let e : n / 10 % 10 ≡ n / 10 = omega arith in
      rw (decimal_two n j k, e))
      (λ j. rw (decimal_three n j (omega arith)))
