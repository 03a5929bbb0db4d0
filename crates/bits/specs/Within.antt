-- Which fields can be read and written: those of at most 64 bits that end within the bytes. Bits are counted as
-- clause 4.1 has it.
use Rattle.std.specs.Prelude.{List, ℕ, ◌+◌, ◌*◌, ◌≤◌, length}

pub record Within (s : List ℕ) (off n : ℕ) : Type 0 where
  pub ends : off + n ≤ 8 * length s
  pub width : n ≤ 64
