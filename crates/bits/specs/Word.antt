-- The steps of loading and storing eight bytes at once. A field has its most significant bit first, so the first byte of
-- eight is the highest; the code takes it as the lowest, and then turns all eight round. No call's own contract cites these.
use Rattle.std.specs.Prelude.{List, ℕ, ◌+◌, ◌*◌, ◌/◌, ◌%◌, get_or, set}

-- the number in the eight bytes of s from byte i on, the first one lowest
abbrev pub low_first : List ℕ → ℕ → ℕ
low_first s i =
    get_or s i 0
    + get_or s (i + 1) 0 * 256
    + get_or s (i + 2) 0 * 65536
    + get_or s (i + 3) 0 * 16777216
    + get_or s (i + 4) 0 * 4294967296
    + get_or s (i + 5) 0 * 1099511627776
    + get_or s (i + 6) 0 * 281474976710656
    + get_or s (i + 7) 0 * 72057594037927936

-- the number in the four bytes of s from byte i on, the first one lowest
abbrev pub low_first_four : List ℕ → ℕ → ℕ
low_first_four s i = get_or s i 0 + get_or s (i + 1) 0 * 256 + get_or s (i + 2) 0 * 65536 + get_or s (i + 3) 0 * 16777216

-- x, with its eight bytes in the other order
abbrev pub swapped : ℕ → ℕ
swapped x =
    x % 256 * 72057594037927936
    + x / 256 % 256 * 281474976710656
    + x / 65536 % 256 * 1099511627776
    + x / 16777216 % 256 * 4294967296
    + x / 4294967296 % 256 * 16777216
    + x / 1099511627776 % 256 * 65536
    + x / 281474976710656 % 256 * 256
    + x / 72057594037927936 % 256

-- s, with the four bytes from byte i on replaced by the four low bytes of x, the lowest first
abbrev pub set_four : List ℕ → ℕ → ℕ → List ℕ
set_four s i x =
    set (set (set (set s i (x % 256)) (i + 1) (x / 256 % 256)) (i + 2) (x / 65536 % 256)) (i + 3) (x / 16777216 % 256)
