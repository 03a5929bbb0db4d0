-- Clause 4.1: what a list of bytes becomes when a field of it is written.
use Rattle.std.specs.Prelude.{List, ℕ, zero, suc, ◌+◌, ◌-◌, ◌*◌, ◌/◌, ◌%◌, ◌^◌, get_or, set}

-- the number x, with the m bits above its k low ones replaced by v
unfoldable pub replaced : ℕ → ℕ → ℕ → ℕ → ℕ
replaced x k m v = (x / 2 ^ (k + m) * 2 ^ m + v) * 2 ^ k + x % 2 ^ k

-- s, with bit i replaced by v
unfoldable pub put_bit : List ℕ → ℕ → ℕ → List ℕ
put_bit s i v = set s (i / 8) (replaced (get_or s (i / 8) 0) (7 - i % 8) 1 v)

-- s, with the n bits from bit off on replaced by the n low bits of v
unfoldable pub put_field : List ℕ → ℕ → ℕ → ℕ → List ℕ
put_field s off zero v = s
put_field s off (suc n) v = put_bit (put_field s off n (v / 2)) (off + n) (v % 2)
