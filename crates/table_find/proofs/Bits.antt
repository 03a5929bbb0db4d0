-- A number of at most k bits.
use mathlib.Core.Path.{◌≡◌, sym, ap, ◌∙◌}
use Prim.Native.Nat.{ℕ, ◌+◌, ◌*◌, ◌/◌, ◌^◌, ◌≤◌, ◌<◌}
use native.Mathlib.Omega.{arith}
use native.Mathlib.Nat.{zero-add, mod-lt}
use native.Mathlib.Decide.{dec_le}
use lib.Pow.{pow_pos, split, shr_lt}
use lib.Dec.{eqb, ltb}
use borrow.Author.Tests.{eq-eqb, ne_eqb, lt-ltb, le-ltb}

pub fits_is : (x k : ℕ) → eqb (x / 2 ^ k) 0 ≡ ltb x (2 ^ k)
fits_is x k = pick (dec_le (2 ^ k) x)
  where
    pick : Dec (2 ^ k ≤ x) → eqb (x / 2 ^ k) 0 ≡ ltb x (2 ^ k)
    pick (yes l) =
        ne_eqb (x / 2 ^ k) 0 (λ e. omega (arith, split x k, ap (λ (n : ℕ). n * 2 ^ k) e, mod-lt x (pow_pos k)))
        ∙ sym (le-ltb x (2 ^ k) l)
    pick (no f) =
        let h : x < 2 ^ (0 + k) = rw zero-add (omega arith) in
        eq-eqb (x / 2 ^ k) 0 (omega (arith, shr_lt 0 k h)) ∙ sym (lt-ltb x (2 ^ k) (omega arith))
