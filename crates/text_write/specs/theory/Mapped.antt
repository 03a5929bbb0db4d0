-- Which of the two texts is written, and how long a dotted one is.
use Rattle.std.specs.Prelude.{◌≡◌, true, false, List, ◌∷◌, ◌++◌, ℕ, ◌+◌, ◌*◌, ◌/◌, ◌%◌, ◌^◌, ◌≤◌, ◌<◌, length}
use native.Mathlib.Omega.{arith}
use Rattle.std.proofs.Common.{length-append}
use borrow.Author.Tests.{eqb-true}
use Rattle.text_write.specs.Ascii.{ascii}
use Rattle.text_write.specs.Decimal.{decimal_text}
use Rattle.text_write.specs.Writing.{text_of, four_groups, is_mapped, dotted_text, mapped_text, written}
use Rattle.text_write.specs.theory.Decimal.{decimal_length}

module _ (high low : ℕ) where
  pub written_mapped : is_mapped high low ≡ true → written high low ≡ mapped_text low
  unfolding written
  written_mapped e = rw e

  pub written_plain : is_mapped high low ≡ false → written high low ≡ text_of (four_groups high ++ four_groups low)
  unfolding written
  written_plain e = rw e

  -- the halves of a mapped address
  pub mapped_halves : is_mapped high low ≡ true → (high ≡ 0) × (low / 2 ^ 32 ≡ 65535)
  unfolding is_mapped
  mapped_halves e = let p : (high * 2 ^ 64 + low) / 2 ^ 32 ≡ 65535 = eqb-true ((high * 2 ^ 64 + low) / 2 ^ 32) 65535 e in (omega arith, omega arith)

-- "::ffff:", four decimals and three dots
pub mapped_size : (low : ℕ) →
    let x = low % 2 ^ 32 in
    length (mapped_text low)
    ≡ 10 + (length (decimal_text (x / 2 ^ 24)) + length (decimal_text (x / 2 ^ 16 % 256)) + (length (decimal_text (x / 2 ^ 8 % 256)) + length (decimal_text (x % 256))))
unfolding mapped_text dotted_text ascii
mapped_size low =
    let x : ℕ = low % 2 ^ 32 in
    let a : List ℕ = decimal_text (x / 2 ^ 24) in
    let b : List ℕ = decimal_text (x / 2 ^ 16 % 256) in
    let c : List ℕ = decimal_text (x / 2 ^ 8 % 256) in
    let d : List ℕ = decimal_text (x % 256) in
    omega (arith, length-append (a ++ 46 ∷ b ++ 46 ∷ c) (46 ∷ d), length-append (a ++ 46 ∷ b) (46 ∷ c), length-append a (46 ∷ b))

-- a byte has at most three digits
byte_length : (n : ℕ) → n < 256 → length (decimal_text n) ≤ 3
byte_length n h = decimal_length 2 n (omega arith)

pub mapped_length : (low : ℕ) → length (mapped_text low) ≤ 22
mapped_length low =
    let x : ℕ = low % 2 ^ 32 in
    omega (
      arith,
      mapped_size low,
      byte_length (x / 2 ^ 24) (omega arith),
      byte_length (x / 2 ^ 16 % 256) (omega arith),
      byte_length (x / 2 ^ 8 % 256) (omega arith),
      byte_length (x % 256) (omega arith),
    )
