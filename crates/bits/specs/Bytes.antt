-- Lists of bytes, for the fields of clause 4.1.
use Rattle.std.specs.Prelude.{List, ℕ, ◌<◌, get_or}

-- every element of s is below 256
abbrev pub Bytes : List ℕ → Type 0
Bytes s = (i : ℕ) → get_or s i 0 < 256
