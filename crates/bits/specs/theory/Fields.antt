-- The laws of reading, each for every width together.
use Rattle.std.specs.Prelude.{◌≡◌, refl, List, ℕ, zero, suc, ◌+◌, ◌-◌, ◌*◌, ◌/◌, ◌%◌, ◌^◌, ◌≤◌, ◌<◌, length, get_or, replicate}
use Rattle.std.proofs.Common.{sym, ap, ap₂, ◌∙◌, add-zero, add-suc, add_assoc, mod-lt, pow-suc, zero-lt-suc, lt_of_lt_of_le, arith, ext_get_or, pow_pos, pow_mono}
use Rattle.std.proofs.Math.Nat.{zero-div, zero-mod}
use Rattle.std.proofs.Math.Pow.{high, low}
use Rattle.laws.specs.Lists.{replicate_at}
use Rattle.bits.specs.Bytes.{Bytes}
use Rattle.bits.specs.Field.{bit_at, field}
use Rattle.bits.specs.theory.Numbers.{more_bits}

pub bit_lt : (s : List ℕ) (i : ℕ) → bit_at s i < 2
unfolding bit_at
bit_lt s i = mod-lt _ (zero-lt-suc 1)

-- ---- the value of a field

pub field_zero : (s : List ℕ) (off : ℕ) → field s off 0 ≡ 0
unfolding field
field_zero s off = refl

pub field_lt : (s : List ℕ) (off n : ℕ) → field s off n < 2 ^ n
unfolding field
field_lt s off zero = omega arith
field_lt s off (suc n) = omega (arith, field_lt s off n, bit_lt s (off + n), pow-suc 2 n)

-- a field of at most w bits is a number of w bits
pub field_fits : (s : List ℕ) (off n w : ℕ) → n ≤ w → field s off n < 2 ^ w
field_fits s off n w l = lt_of_lt_of_le (field_lt s off n) (pow_mono l)

-- lists that agree on the bits of a field agree on the field
pub field_ext : (s t : List ℕ) (off n : ℕ) → ((i : ℕ) → off ≤ i → i < off + n → bit_at s i ≡ bit_at t i) → field s off n ≡ field t off n
unfolding field
field_ext s t off zero h = refl
field_ext s t off (suc n) h =
    ap₂ (λ (x y : ℕ). x * 2 + y)
    (field_ext s t off n (λ i a b. h i a (omega arith)))
    (h (off + n) (omega arith) (omega arith))

-- zero bytes hold zeros
bit_none : (s : List ℕ) (i : ℕ) → get_or s (i / 8) 0 ≡ 0 → bit_at s i ≡ 0
unfolding bit_at
bit_none s i h = rw (h, zero-div, zero-mod 2)

pub field_none : (s : List ℕ) (off n : ℕ) → ((i : ℕ) → off ≤ i → i < off + n → get_or s (i / 8) 0 ≡ 0) → field s off n ≡ 0
unfolding field
field_none s off zero h = refl
field_none s off (suc n) h =
    omega (arith, field_none s off n (λ i a b. h i a (omega arith)), bit_none s (off + n) (h (off + n) (omega arith) (omega arith)))

pub zero_field : (n off m : ℕ) → field (replicate n 0) off m ≡ 0
zero_field n off m = field_none (replicate n 0) off m (λ i a b. replicate_at {A = ℕ} n (i / 8) 0)

-- ---- fields side by side

pub field_cat : (s : List ℕ) (off m n : ℕ) → field s off (m + n) ≡ field s off m * 2 ^ n + field s (off + m) n
unfolding field
field_cat s off m zero = ap (field s off) (add-zero m) ∙ omega arith
field_cat s off m (suc n) =
    ap (field s off) (add-suc m n)
    ∙ rw pow-suc (omega (arith, field_cat s off m n, ap (bit_at s) (add_assoc off m n)))

-- two numbers that hold the parts of a field
pub field_parts : (s : List ℕ) (off m n w h l : ℕ) → m + n ≡ w → h ≡ field s off m → l ≡ field s (off + m) n → h * 2 ^ n + l ≡ field s off w
field_parts s off m n w h l e p q = rw (p, q, ← e) (sym (field_cat s off m n))

-- the first a bits of a field, and the n that follow them
pub first_field : (s : List ℕ) (off a n : ℕ) → field s off (a + n) / 2 ^ n ≡ field s off a
first_field s off a n = rw (field_cat s off a n) (high _ n (field_lt s (off + a) n))

pub last_field : (s : List ℕ) (off a n : ℕ) → field s off (a + n) % 2 ^ n ≡ field s (off + a) n
last_field s off a n = rw (field_cat s off a n) (low _ n (field_lt s (off + a) n))

-- the part of a field of w bits that stands between its first a bits and its last b
pub sub_field : (s : List ℕ) (off w a n b : ℕ) → a + n + b ≡ w → field s off w / 2 ^ b % 2 ^ n ≡ field s (off + a) n
sub_field s off w a n b e =
    rw (← e, first_field s off (a + n) b) (last_field s off a n)

-- ---- fields and bytes

-- a field within byte i: after its first a bits, with k left after it
pub field_in : (s : List ℕ) (i a m k : ℕ) → a + m + k ≡ 8 → field s (8 * i + a) m ≡ get_or s i 0 / 2 ^ k % 2 ^ m
unfolding field bit_at
field_in s i a zero k e = sym (omega (arith, mod-lt (get_or s i 0 / 2 ^ k) (pow_pos 0)))
field_in s i a (suc m) k e =
    rw (field_in s i a m (k + 1) (omega arith))
    (rw (at_byte, at_bit) (more_bits (get_or s i 0) k m))
  where
    at_byte : (8 * i + a + m) / 8 ≡ i
    at_byte = omega arith

    at_bit : 7 - (8 * i + a + m) % 8 ≡ k
    at_bit = omega arith

-- the whole of byte i
pub field_byte : (s : List ℕ) (i : ℕ) → get_or s i 0 < 256 → field s (8 * i) 8 ≡ get_or s i 0
field_byte s i l =
    let e : 8 * i + 0 ≡ 8 * i = omega arith in
    rw e at (field_in s i 0 8 0 refl) ∙ omega arith

-- lists of bytes with the same bits are the same
pub bits_ext : (s t : List ℕ) → length s ≡ length t → Bytes s → Bytes t → ((i : ℕ) → i < 8 * length s → bit_at s i ≡ bit_at t i) → s ≡ t
bits_ext s t e a b h =
    ext_get_or 0 s t e λ i l. sym (field_byte s i (a i)) ∙ field_ext s t (8 * i) 8 (λ j p q. h j (omega arith)) ∙ field_byte t i (b i)
