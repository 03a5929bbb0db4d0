-- A group's digits, four at a time: one a byte of a number, and each turned into its character by the same sum.
use Rattle.std.specs.Prelude.{◌≡◌, List, [], ◌∷◌, ℕ, ◌+◌, ◌-◌, ◌*◌, ◌/◌, ◌%◌, ◌^◌, ◌≤◌, ◌<◌, ltb, length, take}
use Rattle.std.proofs.Common.{ap, ◌∙◌, lt_of_not-le, le_of_suc-le-suc, pow-suc, pow_mono}
use native.Mathlib.Omega.{arith}
use Rattle.std.specs.Int.Bits.{bit_and}
use Rattle.std.proofs.lemmas.Nat.{and_block, and_mask, leading_length}
use Rattle.std.specs.Int.Count.{count_leading_zeros}
use borrow.Author.Tests.{ltb-true, ltb-false, eq-eqb, ne_eqb}
use Rattle.laws.specs.Cases.{cases}
use Rattle.text_write.specs.Writing.{hex_digit, trimmed, group_text}
use Rattle.text_write.specs.WriterSteps.{packed, unpacked}

-- The text of a group, by how many digits it has ------------------------------------------------------------------------

module _ (g : ℕ) where
  pub text_1 : g < 16 → group_text g ≡ hex_digit g ∷ []
  unfolding group_text trimmed
  text_1 h =
      let a : g % 16 ≡ g = omega arith in
      simp (eq-eqb (g / 4096) 0 (omega arith), eq-eqb (g / 256 % 16) 0 (omega arith), eq-eqb (g / 16 % 16) 0 (omega arith), a)

  pub text_2 : 16 ≤ g → g < 256 → group_text g ≡ hex_digit (g / 16) ∷ hex_digit (g % 16) ∷ []
  unfolding group_text trimmed
  text_2 k h =
      let a : g / 16 % 16 ≡ g / 16 = omega arith in
      simp (eq-eqb (g / 4096) 0 (omega arith), eq-eqb (g / 256 % 16) 0 (omega arith), ne_eqb (g / 16) 0 (λ e. omega arith), a)

  pub text_3 : 256 ≤ g → g < 4096 → group_text g ≡ hex_digit (g / 256) ∷ hex_digit (g / 16 % 16) ∷ hex_digit (g % 16) ∷ []
  unfolding group_text trimmed
  text_3 k h =
      let a : g / 256 % 16 ≡ g / 256 = omega arith in
      simp (eq-eqb (g / 4096) 0 (omega arith), ne_eqb (g / 256) 0 (λ e. omega arith), a)

  pub text_4 : 4096 ≤ g → group_text g ≡ hex_digit (g / 4096) ∷ hex_digit (g / 256 % 16) ∷ hex_digit (g / 16 % 16) ∷ hex_digit (g % 16) ∷ []
  unfolding group_text trimmed
  text_4 k = simp (ne_eqb (g / 4096) 0 (λ e. omega arith))

-- the four cases of a group
pub by_digits : {A : Type 0} (g : ℕ) → (g < 16 → A) → (16 ≤ g → g < 256 → A) → (256 ≤ g → g < 4096 → A) → (4096 ≤ g → A) → A
by_digits g one two three four =
    cases (ltb g 16) (λ e. one (ltb-true g 16 e))
    (λ d.
    cases (ltb g 256) (λ e. two (ltb-false g 16 d) (ltb-true g 256 e))
    (λ e. cases (ltb g 4096) (λ f. three (ltb-false g 256 e) (ltb-true g 4096 f)) (λ f. four (ltb-false g 4096 f))))

-- "one to four hexadecimal digits"
pub text_length : (g : ℕ) → (1 ≤ length (group_text g)) × (length (group_text g) ≤ 4)
text_length g =
    by_digits g (λ h. rw (text_1 g h) (omega arith)) (λ k h. rw (text_2 g k h) (omega arith)) (λ k h. rw (text_3 g k h) (omega arith))
    (λ k. rw (text_4 g k) (omega arith))

-- Characters ------------------------------------------------------------------------------------------------------------

-- without a case: only from 10 on does d + 6 reach 16
pub hex_sum : (d : ℕ) → d < 16 → hex_digit d ≡ 48 + d + (d + 6) / 16 * 39
unfolding hex_digit
hex_sum d h =
    cases (ltb d 10) (λ e. let l = ltb-true d 10 e in rw e (omega arith)) (λ e. let l = ltb-false d 10 e in rw e (omega arith))

pub hex_lt : (d : ℕ) → d < 16 → hex_digit d < 256
hex_lt d h = omega (arith, hex_sum d h)

-- the lowest bit of the lowest byte, and what the mask m takes of the rest
mask_byte : (a r m : ℕ) → r < 256 → bit_and (a * 256 + r) (m * 256 + 1) ≡ bit_and a m * 256 + r % 2
mask_byte a r m h = and_block 8 a m r 1 h (omega arith) ∙ ap (λ (x : ℕ). bit_and a m * 256 + x) (and_mask r 1)

-- the lowest bit of each of four bytes
mask_four : (p q r s : ℕ) → p < 256 → q < 256 → r < 256
    → bit_and (((s * 256 + r) * 256 + q) * 256 + p) 16843009 ≡ packed (p % 2) (q % 2) (r % 2) (s % 2)
mask_four p q r s hp hq hr =
    let i = mask_byte ((s * 256 + r) * 256 + q) p 65793 hp in
    let j = mask_byte (s * 256 + r) q 257 hq in
    let k = mask_byte s r 1 hr in
    let l = and_mask s 1 in
    omega arith

-- four bytes moved down by four bits
shifted : (u v w z : ℕ) → packed u v w z / 16 ≡ u / 16 + v * 16 + w * 4096 + z * 1048576
shifted u v w z = omega arith

bytes_of : (u v v₁ v₀ w w₁ w₀ z z₁ z₀ : ℕ) → v ≡ v₁ * 16 + v₀ → w ≡ w₁ * 16 + w₀ → z ≡ z₁ * 16 + z₀
    → u + v * 16 + w * 4096 + z * 1048576 ≡ ((z₁ * 256 + (w₁ + z₀ * 16)) * 256 + (v₁ + w₀ * 16)) * 256 + (u + v₀ * 16)
bytes_of u v v₁ v₀ w w₁ w₀ z z₁ z₀ e f g = omega arith

-- the bytes of a number that four were packed into
pub unpacked_is : (p q r s : ℕ) → p < 256 → q < 256 → r < 256 → s < 256 → unpacked (packed p q r s) ≡ p ∷ q ∷ r ∷ s ∷ []
unpacked_is p q r s hp hq hr hs =
    let d₁ : packed p q r s / 256 ≡ q + r * 256 + s * 65536 = omega arith in
    let d₂ : packed p q r s / 65536 ≡ r + s * 256 = omega arith in
    let d₃ : packed p q r s / 16777216 ≡ s = omega arith in
    let e₀ : packed p q r s % 256 ≡ p = omega arith in
    let e₁ : (q + r * 256 + s * 65536) % 256 ≡ q = omega arith in
    let e₂ : (r + s * 256) % 256 ≡ r = omega arith in
    let e₃ : s % 256 ≡ s = omega arith in
    rw (d₁, d₂, d₃, e₀, e₁, e₂, e₃)

-- and of one with the bytes a place higher: the first is zero, and the last goes
pub unpacked_next : (p q r s : ℕ) → p < 256 → q < 256 → r < 256 → unpacked (packed p q r s * 256) ≡ 0 ∷ p ∷ q ∷ r ∷ []
unpacked_next p q r s hp hq hr =
    let d₁ : packed p q r s * 256 / 256 ≡ packed p q r s = omega arith in
    let d₂ : packed p q r s * 256 / 65536 ≡ q + r * 256 + s * 65536 = omega arith in
    let d₃ : packed p q r s * 256 / 16777216 ≡ r + s * 256 = omega arith in
    let e₀ : packed p q r s * 256 % 256 ≡ 0 = omega arith in
    let e₁ : packed p q r s % 256 ≡ p = omega arith in
    let e₂ : (q + r * 256 + s * 65536) % 256 ≡ q = omega arith in
    let e₃ : (r + s * 256) % 256 ≡ r = omega arith in
    rw (d₁, d₂, d₃, e₀, e₁, e₂, e₃)

module _ (a b c d : ℕ) (ha : a < 16) (hb : b < 16) (hc : c < 16) (hd : d < 16) where
  pub letters : bit_and ((packed a b c d + 101058054) / 16) 16843009 ≡ packed ((a + 6) / 16) ((b + 6) / 16) ((c + 6) / 16) ((d + 6) / 16)
  letters =
      let p = (a + 6) / 16 + (b + 6) % 16 * 16 in
      let q = (b + 6) / 16 + (c + 6) % 16 * 16 in
      let r = (c + 6) / 16 + (d + 6) % 16 * 16 in
      let s = (d + 6) / 16 in
      let plus-six : (packed a b c d + 101058054) / 16 ≡ packed (a + 6) (b + 6) (c + 6) (d + 6) / 16 = omega arith in
      let e : packed (a + 6) (b + 6) (c + 6) (d + 6) / 16 ≡ ((s * 256 + r) * 256 + q) * 256 + p =
      shifted (a + 6) (b + 6) (c + 6) (d + 6)
      ∙ bytes_of ((a + 6) / 16) (b + 6) ((b + 6) / 16) ((b + 6) % 16) (c + 6) ((c + 6) / 16) ((c + 6) % 16) (d + 6) ((d + 6) / 16) ((d + 6) % 16)
      (omega arith) (omega arith) (omega arith)
      in
      let ep : p % 2 ≡ (a + 6) / 16 = omega arith in
      let eq : q % 2 ≡ (b + 6) / 16 = omega arith in
      let er : r % 2 ≡ (c + 6) / 16 = omega arith in
      let es : s % 2 ≡ (d + 6) / 16 = omega arith in
      ap (λ (x : ℕ). bit_and x 16843009) (plus-six ∙ e) ∙ mask_four p q r s (omega arith) (omega arith) (omega arith) ∙ rw (ep, eq, er, es)

  pub characters_are : packed a b c d + 808464432 + bit_and ((packed a b c d + 101058054) / 16) 16843009 * 39
      ≡ packed (hex_digit a) (hex_digit b) (hex_digit c) (hex_digit d)
  characters_are = omega (arith, letters, hex_sum a ha, hex_sum b hb, hex_sum c hc, hex_sum d hd)

  pub unpacked_hex : unpacked (packed (hex_digit a) (hex_digit b) (hex_digit c) (hex_digit d)) ≡ hex_digit a ∷ hex_digit b ∷ hex_digit c ∷ hex_digit d ∷ []
  unpacked_hex = unpacked_is (hex_digit a) (hex_digit b) (hex_digit c) (hex_digit d) (hex_lt a ha) (hex_lt b hb) (hex_lt c hc) (hex_lt d hd)

-- How many digits -------------------------------------------------------------------------------------------------------

-- the length of a number in bits, from the powers of two around it
bits_within : (a j k m : ℕ) → 2 ^ j ≤ a → a < 2 ^ k → a < 2 ^ m → 2 ^ m ≤ 2 * a + 1 → (j < m) × (m ≤ k)
bits_within a j k m low high below above = (
  lt_of_not-le (λ l. let p = pow_mono l in omega arith),
  le_of_suc-le-suc (lt_of_not-le (λ l. let p = pow_mono l in let q = pow-suc 2 k in omega arith)),
)

-- one digit for every four bits, and one for 0
module _ (g : ℕ) (h : g < 65536) where
  abbrev low : ℕ
  low = g / 2 * 2 + 1

  counted : (n j k : ℕ) → 2 ^ j ≤ low → low < 2 ^ k → n * 4 ≡ j + 4 → k ≡ n * 4 → (35 - count_leading_zeros 32 low) / 4 ≡ n
  counted n j k below above e f =
      let t = leading_length 32 low (omega arith) in
      let b = bits_within low j k t.0 below above t.2 t.3 in
      omega (arith, t.1, b.0, b.1)

  pub count_is : (35 - count_leading_zeros 32 low) / 4 ≡ length (group_text g)
  count_is =
      by_digits g (λ l. rw (text_1 g l) (counted 1 0 4 (omega arith) (omega arith) (omega arith) (omega arith)))
      (λ k l. rw (text_2 g k l) (counted 2 4 8 (omega arith) (omega arith) (omega arith) (omega arith)))
      (λ k l. rw (text_3 g k l) (counted 3 8 12 (omega arith) (omega arith) (omega arith) (omega arith)))
      (λ k. rw (text_4 g k) (counted 4 12 16 (omega arith) (omega arith) (omega arith) (omega arith)))

-- A group moved up, so that its first digit that counts comes first --------------------------------------------------------

-- the characters of all four digits
abbrev pub four : ℕ → List ℕ
four m = hex_digit (m / 4096) ∷ hex_digit (m / 256 % 16) ∷ hex_digit (m / 16 % 16) ∷ hex_digit (m % 16) ∷ []

abbrev pub moved : ℕ → ℕ → ℕ
moved g n = g * 2 ^ (16 - 4 * n) % 4294967296

pub moved_is : (g n : ℕ) → g < 65536 → n ≡ length (group_text g) → (moved g n < 65536) × (take n (four (moved g n)) ≡ group_text g)
moved_is g n h e =
    by_digits g
    (λ l.
    let f : n ≡ 1 = e ∙ ap length (text_1 g l) in
    let a : g * 4096 % 4294967296 / 4096 ≡ g = omega arith in
    rw (f, text_1 g l) (omega arith, rw a))
    (λ k l.
    let f : n ≡ 2 = e ∙ ap length (text_2 g k l) in
    let a : g * 256 % 4294967296 / 4096 ≡ g / 16 = omega arith in
    let b : g * 256 % 4294967296 / 256 % 16 ≡ g % 16 = omega arith in
    rw (f, text_2 g k l) (omega arith, rw (a, b)))
    (λ k l.
    let f : n ≡ 3 = e ∙ ap length (text_3 g k l) in
    let a : g * 16 % 4294967296 / 4096 ≡ g / 256 = omega arith in
    let b : g * 16 % 4294967296 / 256 % 16 ≡ g / 16 % 16 = omega arith in
    let c : g * 16 % 4294967296 / 16 % 16 ≡ g % 16 = omega arith in
    rw (f, text_3 g k l) (omega arith, rw (a, b, c)))
    (λ k.
    let f : n ≡ 4 = e ∙ ap length (text_4 g k) in
    let a : g * 1 % 4294967296 ≡ g = omega arith in
    rw (f, text_4 g k) (omega arith, rw a))
