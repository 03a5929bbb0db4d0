-- Clause 4.1: what a field of a list of bytes reads as.
use Rattle.std.specs.Prelude.{List, ℕ, zero, suc, ◌+◌, ◌-◌, ◌*◌, ◌/◌, ◌%◌, ◌^◌, get_or}

-- bit i of s; 0 past its end
unfoldable pub bit_at : List ℕ → ℕ → ℕ
bit_at s i = get_or s (i / 8) 0 / 2 ^ (7 - i % 8) % 2

-- the number whose n bits stand in s from bit off on
unfoldable pub field : List ℕ → ℕ → ℕ → ℕ
field s off zero = 0
field s off (suc n) = field s off n * 2 + bit_at s (off + n)
