-- Numbers in two words of 64 bits, cut after their low n bits: what each word of the parts is. The cut is in the high word or in the low one.
use Rattle.std.specs.Prelude.{◌≡◌, ◌&&◌, ℕ, ◌+◌, ◌-◌, ◌*◌, ◌/◌, ◌%◌, ◌^◌, ◌≤◌, ◌<◌, ltb, eqb}
use Rattle.std.proofs.Common.{sym, ap, ap₂, ◌∙◌, sub-add_cancel, le-add_right, lt_of_le_of_lt, lt_of_mul-lt-mul_right, mul_assoc, add-mul, mod-lt, arith, pow_pos, pow_mono, pow-add, shr-shr, eqb-true, le-ltb}
use Rattle.std.proofs.Math.Nat.{mul-add-div_right}
use Rattle.std.proofs.Math.Arith.{lt-one, digits_lt}
use Rattle.std.proofs.Math.Pow.{split, high, low, mod-mod-pow}
use Rattle.std.proofs.lemmas.Nat.{mod-pow-add}
use Rattle.std.proofs.lemmas.Bool.{eqb-false}
use Rattle.laws.specs.Cases.{cases}
use Rattle.laws.specs.Tests.{ltb_iff}

power_split : {k n : ℕ} → k ≤ n → 2 ^ n ≡ 2 ^ (n - k) * 2 ^ k
power_split {k} {n} le = ap (λ (m : ℕ). 2 ^ m) (sym (sub-add_cancel le)) ∙ pow-add 2 (n - k) k

-- ---- the cut is in the high word
module _ (h : ℕ) {l n : ℕ} (fits : l < 2 ^ 64) (cut : 64 ≤ n) where
  pub below_high : ltb h (2 ^ (n - 64)) ≡ ltb (h * 2 ^ 64 + l) (2 ^ n)
  below_high =
      let p = power_split cut in
      ltb_iff h (2 ^ (n - 64)) (h * 2 ^ 64 + l) (2 ^ n) (λ k. omega arith) (λ k. omega arith)

  pub mod_high : (h * 2 ^ 64 + l) % 2 ^ n ≡ h % 2 ^ (n - 64) * 2 ^ 64 + l
  mod_high =
      ap (λ (m : ℕ). (h * 2 ^ 64 + l) % 2 ^ m) (sym (sub-add_cancel cut))
      ∙ mod-pow-add (h * 2 ^ 64 + l) (n - 64) 64
      ∙ ap₂ (λ (x y : ℕ). x % 2 ^ (n - 64) * 2 ^ 64 + y) (high h 64 fits) (low h 64 fits)

  pub div_high : (h * 2 ^ 64 + l) / 2 ^ n ≡ h / 2 ^ (n - 64)
  div_high =
      let e : n ≡ 64 + (n - 64) = omega arith in
      ap (λ (m : ℕ). (h * 2 ^ 64 + l) / 2 ^ m) e
      ∙ sym (shr-shr (h * 2 ^ 64 + l) 64 (n - 64))
      ∙ ap (λ (x : ℕ). x / 2 ^ (n - 64)) (high h 64 fits)

-- ---- the cut is in the low word
module _ (h : ℕ) {l n : ℕ} (fits : l < 2 ^ 64) (cut : n ≤ 63) where
  pub below_low : (eqb h 0 && ltb l (2 ^ n)) ≡ ltb (h * 2 ^ 64 + l) (2 ^ n)
  below_low =
      let p : 2 ^ n ≤ 2 ^ 63 = pow_mono cut in
      cases (eqb h 0)
      (λ t. rw t (ap (λ (x : ℕ). ltb x (2 ^ n)) (let z = eqb-true h 0 t in let e : l ≡ h * 2 ^ 64 + l = omega arith in e)))
      (λ t. rw t (let ne = eqb-false h 0 t in sym (le-ltb (h * 2 ^ 64 + l) (2 ^ n) (omega arith))))

  pub mod_low : (h * 2 ^ 64 + l) % 2 ^ n ≡ l % 2 ^ n
  mod_low =
      sym (mod-mod-pow (h * 2 ^ 64 + l) (64 - n) n)
      ∙ ap (λ (m : ℕ). (h * 2 ^ 64 + l) % 2 ^ m % 2 ^ n) (sub-add_cancel (let k : n ≤ 64 = omega arith in k))
      ∙ ap (λ (x : ℕ). x % 2 ^ n) (low h 64 fits)

  pub div_low : (h * 2 ^ 64 + l) / 2 ^ n ≡ h * 2 ^ (64 - n) + l / 2 ^ n
  div_low =
      let k : n ≤ 64 = omega arith in
      ap (λ (x : ℕ). (x + l) / 2 ^ n) (ap (λ (x : ℕ). h * x) (power_split k) ∙ sym (mul_assoc h (2 ^ (64 - n)) (2 ^ n)))
      ∙ mul-add-div_right (pow_pos n) (h * 2 ^ (64 - n)) l

-- ---- a number on top of n bits
pub join_high : (top h l : ℕ) {n : ℕ} → 64 ≤ n → (top * 2 ^ (n - 64) + h) * 2 ^ 64 + l ≡ top * 2 ^ n + (h * 2 ^ 64 + l)
join_high top h l {n} cut =
    let p = ap (λ (x : ℕ). top * x) (power_split cut) ∙ sym (mul_assoc top (2 ^ (n - 64)) (2 ^ 64)) in
    omega arith

-- nothing stands on top of 128 bits in a number below 2 ^ 128
pub no_top : (top k : ℕ) → top * 2 ^ 128 + k < 2 ^ 128 → top ≡ 0
no_top top k h = lt-one (lt_of_mul-lt-mul_right (2 ^ 128) {n = 1} (lt_of_le_of_lt (le-add_right (top * 2 ^ 128) k) h))

-- the high word of a number below 2 ^ 128
pub high_fits : (h l : ℕ) → h * 2 ^ 64 + l < 2 ^ 128 → h < 2 ^ 64
high_fits h l k = lt_of_mul-lt-mul_right (2 ^ 64) (lt_of_le_of_lt (le-add_right (h * 2 ^ 64) l) k)

-- a number of at most 63 bits is its low word
pub only_low : (h l : ℕ) {n : ℕ} → n ≤ 63 → h * 2 ^ 64 + l < 2 ^ n → h * 2 ^ 64 + l ≡ l
only_low h l {n} cut k = let p : 2 ^ n ≤ 2 ^ 63 = pow_mono cut in omega arith

pub join_low : (top l : ℕ) {n : ℕ} → n ≤ 63
    → top / 2 ^ (64 - n) * 2 ^ 64 + (top % 2 ^ (64 - n) * 2 ^ n + l) ≡ top * 2 ^ n + l
join_low top l {n} cut =
    let k : n ≤ 64 = omega arith in
    let whole = ap (λ (x : ℕ). top / 2 ^ (64 - n) * x) (power_split k) ∙ sym (mul_assoc (top / 2 ^ (64 - n)) (2 ^ (64 - n)) (2 ^ n)) in
    let parts = add-mul (top / 2 ^ (64 - n) * 2 ^ (64 - n)) (top % 2 ^ (64 - n)) (2 ^ n) in
    let both = ap (λ (x : ℕ). x * 2 ^ n) (split top (64 - n)) in
    omega arith

pub join_low_fits : (top : ℕ) {l n : ℕ} → l < 2 ^ n → n ≤ 63 → top % 2 ^ (64 - n) * 2 ^ n + l < 2 ^ 64
join_low_fits top {l} {n} fits cut =
    let k : n ≤ 64 = omega arith in
    omega (arith, digits_lt (mod-lt top (pow_pos (64 - n))) fits, power_split k)
