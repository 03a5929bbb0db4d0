-- Looking for a number among slots by a window of their bits: the slots that are passed, and the number's own window.
use Rattle.std.specs.Prelude.{eqb, false}
use mathlib.Core.Path.{◌≡◌, sym, ap, ◌∙◌}
use mathlib.Core.List.{List}
use Prim.Native.Nat.{ℕ, ◌+◌, ◌-◌, ◌*◌, ◌/◌, ◌%◌, ◌^◌, ◌≤◌, ◌<◌}
use native.Mathlib.Omega.{arith}
use native.Mathlib.Nat.{mod-eq_of_lt, mul-le-mul_right}
use lib.ListN.{length}
use lib.Pow.{pow_mono, high, low, mod-mod-pow}
use lib.Pow as P
use borrow.Author.Tests.{eqb-false}
use Rattle.bits.specs.Field.{field}
use Rattle.bits.specs.Word.{swapped}
use Rattle.bits.specs.theory.Fields.{sub_field}
use Rattle.bits.specs.theory.Numbers.{no_high}
use Rattle.bits.specs.theory.Words.{swapped_twice}
use Rattle.table_read.specs.Rows.{Row, Unlike}

-- ---- places of slots

-- the same place in bits
pub in_bits : (i step k p : ℕ) → p ≡ i + k * step → 8 * p ≡ 8 * i + k * (8 * step)
in_bits i step k p e = omega arith

-- ---- slots passed

-- a slot that holds the number e has e's window, after the first o bits of the entry and with b behind it
pub by_window : (t : List ℕ) (start slot bie e n r : ℕ) (place : ℕ → ℕ) (m q o b : ℕ) → ((k : ℕ) → place k ≡ start + k * slot + o) → o + m + b ≡ bie
    → q ≡ e / 2 ^ b % 2 ^ m → r ≤ n → ((k : ℕ) → k < r → eqb (field t (place k) m) q ≡ false) → Unlike t start slot bie e n r
by_window t start slot bie e n r place m q o b at ew eq h d =
    record {
      high = h;
      before = λ k l f.
          eqb-false _ _ (d k l)
          (ap (λ (x : ℕ). field t x m) (at k) ∙ sym (sub_field t (start + k * slot) bie o m b ew) ∙ ap (λ (x : ℕ). x / 2 ^ b % 2 ^ m) f ∙ sym eq);
    }

-- ---- windows within a block

module _ (t : List ℕ) (start slot bie n : ℕ) (R : Row t start slot bie n) where
  inside : (k : ℕ) → k < n → start + k * slot + slot ≤ start + n * slot
  inside k h = omega (arith, mul-le-mul_right slot h)

  -- slot k from byte i on
  pub word_at : (i s : ℕ) → start ≤ 8 * i → slot ≡ 8 * s → (k : ℕ) → 8 * (i + k * s) ≡ start + k * slot + (8 * i - start)
  word_at i s a e k = let f : k * slot ≡ k * (8 * s) = ap (λ (x : ℕ). k * x) e in omega arith

  -- w bytes from byte i on, which is the first whole one of slot 0, and the same of the other slots
  pub words_within : (i w s : ℕ) → start ≤ 8 * i → 8 * i - start + 8 * w ≤ bie → slot ≡ 8 * s
      → ((k : ℕ) → k < n → i + k * s + w ≤ length t) × (i + n * s ≤ 2 ^ 28)
  words_within i w s a b e = (
    λ k h. let f : k * slot ≡ k * (8 * s) = ap (λ (x : ℕ). k * x) e in omega (arith, inside k h, R.ends, R.fits),
    let f : n * slot ≡ n * (8 * s) = ap (λ (x : ℕ). n * x) e in omega (arith, R.near, R.wide),
  )

  -- the last m bits of the entries
  pub tails_within : (at o m : ℕ) → at ≡ start + o → o + m ≡ bie → 0 < m → (start + n * slot) / 8 + 8 ≤ length t
      → ((k : ℕ) → k < n → (at + k * slot) / 8 + 8 ≤ length t) × (at + n * slot ≤ 2 ^ 28)
  tails_within at o m e f p r = (λ k h. omega (arith, inside k h, R.fits), omega (arith, R.near, R.wide))

-- ---- the window of a number in two halves

-- the last 57 bits of such a number, as a window with nothing behind it
pub last_of : (h l : ℕ) → l < 2 ^ 64 → l % 2 ^ 57 ≡ (h * 2 ^ 64 + l) / 2 ^ 0 % 2 ^ 57
last_of h l f =
    let z : (h * 2 ^ 64 + l) / 2 ^ 0 ≡ h * 2 ^ 64 + l = omega arith in
    rw z (ap (λ (x : ℕ). x % 2 ^ 57) (sym (low h 64 f)) ∙ mod-mod-pow (h * 2 ^ 64 + l) 7 57)

-- all its bits
pub all_of : (h l n : ℕ) → n ≤ 64 → h * 2 ^ 64 + l < 2 ^ n → l ≡ (h * 2 ^ 64 + l) / 2 ^ 0 % 2 ^ n
all_of h l n g f =
    let z : (h * 2 ^ 64 + l) / 2 ^ 0 ≡ h * 2 ^ 64 + l = omega arith in
    let e : h ≡ 0 = no_high h l (2 ^ n) f (pow_mono g) in
    let d : l ≡ h * 2 ^ 64 + l = omega arith in
    rw z (d ∙ sym (mod-eq_of_lt f))

-- ---- the low four bytes of a number, swapped round

-- a byte that is left where only the low bits of w are
low_byte : (w k i : ℕ) → w % 2 ^ (i + 8 + k) / 2 ^ k % 2 ^ 8 ≡ w / 2 ^ k % 2 ^ 8
low_byte w k i = ap (λ (x : ℕ). x % 2 ^ 8) (P.field w (i + 8) k) ∙ mod-mod-pow (w / 2 ^ k) i 8

swapped_low : (w : ℕ)
    → swapped (w % 4294967296) ≡ w % 256 * 72057594037927936 + w / 256 % 256 * 281474976710656 + w / 65536 % 256 * 1099511627776 + w / 16777216 % 256 * 4294967296
swapped_low w =
    let e4 : w % 4294967296 / 4294967296 % 256 ≡ 0 = omega arith in
    let e5 : w % 4294967296 / 1099511627776 % 256 ≡ 0 = omega arith in
    let e6 : w % 4294967296 / 281474976710656 % 256 ≡ 0 = omega arith in
    let e7 : w % 4294967296 / 72057594037927936 % 256 ≡ 0 = omega arith in
    rw (mod-mod-pow w 24 8, low_byte w 8 16, low_byte w 16 8, low_byte w 24 0, e4, e5, e6, e7) (omega arith)

high_four : (x y b0 b1 b2 b3 : ℕ) → x ≡ b0 * 72057594037927936 + b1 * 281474976710656 + b2 * 1099511627776 + b3 * 4294967296 + y → y < 4294967296
    → x / 4294967296 * 4294967296 ≡ b0 * 72057594037927936 + b1 * 281474976710656 + b2 * 1099511627776 + b3 * 4294967296
high_four x y b0 b1 b2 b3 e h = omega arith

pub swapped_four : (w : ℕ) → swapped (swapped w / 4294967296 * 2 ^ 32) ≡ w % 2 ^ 32
swapped_four w =
    let y : ℕ = w / 4294967296 % 256 * 16777216 + w / 1099511627776 % 256 * 65536 + w / 281474976710656 % 256 * 256 + w / 72057594037927936 % 256 in
    ap swapped (high_four (swapped w) y (w % 256) (w / 256 % 256) (w / 65536 % 256) (w / 16777216 % 256) (omega arith) (omega arith) ∙ sym (swapped_low w))
    ∙ swapped_twice (w % 4294967296) (omega arith)
