-- The laws of some bits of a number: the m bits above its k low ones, read and replaced.
use Rattle.std.specs.Prelude.{◌≡◌, ◌≢◌, ℕ, suc, ◌+◌, ◌-◌, ◌*◌, ◌/◌, ◌%◌, ◌^◌, ◌≤◌, ◌<◌}
use Rattle.std.proofs.Common.{sym, ap, ap₂, ◌∙◌, add-zero, add_assoc, add_comm, mod-lt, mod-eq_of_lt, pow-suc, lt_of_le_of_lt, add-sub_of_le, sub-add_cancel, add-one, one-add, arith, pow_pos, shr-shr, shr_lt}
use Rattle.std.proofs.Math.Nat.{mul-mod_left, lt_of_lt_of_le}
use Rattle.std.proofs.Math.Decide.{dec_le}
use Rattle.std.proofs.Math.Pow.{pow-add, high, low, split, mod-mod-pow}
use Rattle.std.proofs.lemmas.Nat.{mod-pow-add, shr_le, shl-shr}
use Rattle.std.proofs.Math.Pow as P
use Rattle.std.proofs.Math.Arith.{digits_lt}
use Rattle.bits.specs.Put.{replaced}

-- ---- low and high parts

-- m bits above the k + 1 low ones, and one bit more
pub more_bits : (x k m : ℕ) → x / 2 ^ (k + 1) % 2 ^ m * 2 + x / 2 ^ k % 2 ≡ x / 2 ^ k % 2 ^ suc m
more_bits x k m =
    rw (← shr-shr x k 1, ← add-one m)
    (sym (mod-pow-add (x / 2 ^ k) m 1))

-- the n + 1 low bits of v: its lowest, and the n above that
pub low_halves : (v n : ℕ) → v / 2 % 2 ^ n * 2 + v % 2 ≡ v % 2 ^ suc n
low_halves v n = rw (← add-one n) (sym (mod-pow-add v n 1))

pub low_half : (v n : ℕ) → v % 2 ^ suc n / 2 ≡ v / 2 % 2 ^ n
low_half v n = omega (arith, low_halves v n)

pub low_bit : (v n : ℕ) → v % 2 ^ suc n % 2 ≡ v % 2
low_bit v n = omega (arith, low_halves v n)

pub above : (v n : ℕ) → v / 2 ^ suc n ≡ v / 2 / 2 ^ n
above v n = rw (← one-add n) (sym (shr-shr v 1 n))

-- numbers that agree above their k low bits, or on them
same_high : (x y : ℕ) {k j : ℕ} → k ≤ j → y / 2 ^ k ≡ x / 2 ^ k → y / 2 ^ j ≡ x / 2 ^ j
same_high x y {k} {j} l e =
    rw (← add-sub_of_le l, ← shr-shr y k (j - k), ← shr-shr x k (j - k)) (ap (λ (n : ℕ). n / 2 ^ (j - k)) e)

same_low : (x y : ℕ) {j k : ℕ} → j ≤ k → y % 2 ^ k ≡ x % 2 ^ k → y % 2 ^ j ≡ x % 2 ^ j
same_low x y {j} {k} l e =
    rw (← mod-mod-pow y (k - j) j, ← mod-mod-pow x (k - j) j, sub-add_cancel l) (ap (λ (n : ℕ). n % 2 ^ j) e)

same_bit : (x y : ℕ) {j k : ℕ} → j < k → y % 2 ^ k ≡ x % 2 ^ k → y / 2 ^ j % 2 ≡ x / 2 ^ j % 2
same_bit x y {j} {k} l e =
    sym (P.field y 1 j) ∙ ap (λ (n : ℕ). n / 2 ^ j) (same_low x y {j = 1 + j} {k = k} (omega arith) e) ∙ P.field x 1 j

-- ---- bits replaced: what is left and what is put

module _ (x k m v : ℕ) where
  pub replaced_low : replaced x k m v % 2 ^ k ≡ x % 2 ^ k
  unfolding replaced
  replaced_low = low _ k (mod-lt x (pow_pos k))

  pub replaced_rest : replaced x k m v / 2 ^ k ≡ x / 2 ^ (k + m) * 2 ^ m + v
  unfolding replaced
  replaced_rest = high _ k (mod-lt x (pow_pos k))

module _ (x k m : ℕ) {v : ℕ} (h : v < 2 ^ m) where
  pub replaced_mid : replaced x k m v / 2 ^ k % 2 ^ m ≡ v
  replaced_mid = rw replaced_rest (low _ m h)

  replaced_high : replaced x k m v / 2 ^ (k + m) ≡ x / 2 ^ (k + m)
  replaced_high = rw (← shr-shr (replaced x k m v) k m, replaced_rest) (high _ m h)

  -- with j bits above them
  within : (j : ℕ) → x < 2 ^ (j + (k + m)) → replaced x k m v < 2 ^ (j + (k + m))
  unfolding replaced
  within j l =
      lt_of_lt_of_le (digits_lt (digits_lt (shr_lt j (k + m) l) h) (mod-lt x (pow_pos k)))
      (rw (pow-add 2 j (k + m), pow-add 2 k m) (omega arith))

  -- a number of at most w bits stays one
  pub replaced_lt : (w : ℕ) → k + m ≤ w → x < 2 ^ w → replaced x k m v < 2 ^ w
  replaced_lt w l lx =
      let e : w - (k + m) + (k + m) ≡ w = omega arith in
      rw e at (within (w - (k + m)) (rw e lx))

pub replaced_own : (x k m : ℕ) → replaced x k m (x / 2 ^ k % 2 ^ m) ≡ x
unfolding replaced
replaced_own x k m = rw (← shr-shr x k m, split (x / 2 ^ k) m, split x k)

-- m bits from k + 1 on, then bit k
replaced_more_at : (x y k m v : ℕ) → y / 2 ^ (k + 1) ≡ x / 2 ^ (k + 1 + m) * 2 ^ m + v / 2 → y % 2 ^ k ≡ x % 2 ^ k
    → replaced y k 1 (v % 2) ≡ replaced x k (suc m) v
unfolding replaced
replaced_more_at x y k m v e f =
    ap₂ (λ (a b : ℕ). a * 2 ^ k + b)
    (rw (e, pow-suc 2 m, ← add-one m, add_assoc k 1 m, add_comm 1 m) (omega arith))
    f

pub replaced_more : (x k m v : ℕ) → replaced (replaced x (k + 1) m (v / 2)) k 1 (v % 2) ≡ replaced x k (suc m) v
replaced_more x k m v =
    replaced_more_at x (replaced x (k + 1) m (v / 2)) k m v (replaced_rest x (k + 1) m (v / 2))
    (same_low x _ {j = k} {k = k + 1} (omega arith) (replaced_low x (k + 1) m (v / 2)))

pub replaced_other : (x k v j : ℕ) → v < 2 → j ≢ k → replaced x k 1 v / 2 ^ j % 2 ≡ x / 2 ^ j % 2
replaced_other x k v j h ne = pick (dec_le k j)
  where
    pick : Dec (k ≤ j) → replaced x k 1 v / 2 ^ j % 2 ≡ x / 2 ^ j % 2
    pick (yes l) = ap (λ (n : ℕ). n % 2) (same_high x _ {k = k + 1} {j = j} (omega arith) (replaced_high x k 1 h))
    pick (no l) = same_bit x _ {j = j} {k = k} (omega arith) (replaced_low x k 1 v)

-- ---- by shifts, products and differences of 64-bit numbers

shl_mod : (w a c : ℕ) → w * 2 ^ a % 2 ^ (c + a) ≡ w % 2 ^ c * 2 ^ a
shl_mod w a c = rw (mod-pow-add (w * 2 ^ a) c a, shl-shr w a, mul-mod_left w (2 ^ a)) (add-zero _)

-- the m bits above the k low ones, by a shift that drops those above and one that drops those below
pub cut : (x k m : ℕ) → k + m ≤ 64 → x * 2 ^ (64 - k - m) % 2 ^ 64 / 2 ^ (64 - m) ≡ x / 2 ^ k % 2 ^ m
cut x k m l =
    let f : m + k + (64 - k - m) ≡ 64 = omega arith in
    let g : 64 - m ≡ 64 - k - m + k = omega arith in
    rw (g, ← shr-shr (x * 2 ^ (64 - k - m) % 2 ^ 64) (64 - k - m) k)
    (ap (λ (y : ℕ). y / 2 ^ (64 - k - m) / 2 ^ k) (rw f at (shl_mod x (64 - k - m) (m + k)))
    ∙ ap (λ (y : ℕ). y / 2 ^ k) (shl-shr (x % 2 ^ (m + k)) (64 - k - m))
    ∙ P.field x m k)

-- x, with its old bits there taken off and v put on; q is 2 to the k
pub record Exchanged (x k m v old q : ℕ) : Type 0 where
  pub off : old * q ≤ x
  pub on : v * q < 2 ^ 64
  pub sum : x - old * q + v * q < 2 ^ 64
  pub is : x - old * q + v * q ≡ replaced x k m v

pub exchanged : (x k m v old q : ℕ) → x < 2 ^ 64 → k + m ≤ 64 → v < 2 ^ m → old ≡ x / 2 ^ k % 2 ^ m → q ≡ 2 ^ k → Exchanged x k m v old q
unfolding replaced
exchanged x k m v old q lx l h eo eq =
    let e : x ≡ (x / 2 ^ (k + m) * 2 ^ m + old) * q + x % 2 ^ k =
    rw (eo, eq, ← shr-shr x k m, split (x / 2 ^ k) m, split x k) in
    let i : x - old * q + v * q ≡ (x / 2 ^ (k + m) * 2 ^ m + v) * q + x % 2 ^ k = omega arith in
    let f : (x / 2 ^ (k + m) * 2 ^ m + v) * q + x % 2 ^ k < 2 ^ 64 = rw eq (replaced_lt x k m h 64 l lx) in
    record { off = omega arith; on = omega arith; sum = omega arith; is = rw (i, eq) }

-- ---- a number in two halves of w bits each, h * 2 ^ w + l

-- its w bits above the k low ones, which are some of l: those of h that stay, shifted left, and those of l, shifted right
pub across_two : (h l j k w : ℕ) → j + k ≡ w → l < 2 ^ w → h * 2 ^ j % 2 ^ w + l / 2 ^ k ≡ (h * 2 ^ w + l) / 2 ^ k % 2 ^ w
across_two h l j k w e g =
    let f : k + j ≡ w = omega arith in
    let y : l / 2 ^ k < 2 ^ j = shr_lt j k (rw e g) in
    let hi : (h * 2 ^ w + l) / 2 ^ k ≡ h * 2 ^ j + l / 2 ^ k =
    ap (λ (x : ℕ). x / 2 ^ k) (rw (← e, pow-add 2 j k) (omega (arith, split l k))) ∙ high (h * 2 ^ j + l / 2 ^ k) k (mod-lt l (pow_pos k)) in
    rw (hi, ← f, shl_mod h j k, mod-pow-add (h * 2 ^ j + l / 2 ^ k) k j, high h j y, low h j y)

-- the same, where they are all of l and j of h
pub above_two : (h l j k w : ℕ) → w + j ≡ k → h < 2 ^ w → l < 2 ^ w → h / 2 ^ j ≡ (h * 2 ^ w + l) / 2 ^ k % 2 ^ w
above_two h l j k w e f g =
    rw (← e, ← shr-shr (h * 2 ^ w + l) w j, high h w g) (sym (mod-eq_of_lt (lt_of_le_of_lt (shr_le h j) f)))

-- its k low bits are those of l
pub low_two : (h l k w : ℕ) → k ≤ w → l < 2 ^ w → (h * 2 ^ w + l) % 2 ^ k ≡ l % 2 ^ k
low_two h l k w e g = same_low l (h * 2 ^ w + l) {j = k} {k = w} e (low h w g ∙ sym (mod-eq_of_lt g))

-- the high half of a number that fits in the low one is 0
pub no_high : (h l p : ℕ) → h * 2 ^ 64 + l < p → p ≤ 2 ^ 64 → h ≡ 0
no_high h l p e f = omega arith
