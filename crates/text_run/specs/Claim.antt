-- Clause 9.4, once more: what a longest run is, by the bytes themselves and not by their classes.
use Rattle.std.specs.Prelude.{◌≡◌, List, [], ◌∷◌, ℕ, ◌≤◌, length, take}
use Rattle.text_read.specs.Grammar.{HexDigit}

-- a hexadecimal digit, a colon (58) or a dot (46)
pub data RunByte : ℕ → Type 0 where
  digit : {x a : ℕ} → HexDigit x a → RunByte x
  a_colon : RunByte 58
  a_dot : RunByte 46

-- a text of such bytes alone
abbrev pub Runs : List ℕ → Type 0
Runs [] = Unit {0}
Runs (x ∷ s) = RunByte x × Runs s

-- r is the longest run that s begins with
pub record Longest (s r : List ℕ) : Type 0 where
  pub begins : take (length r) s ≡ r
  pub runs : Runs r
  pub longest : (n : ℕ) → n ≤ length s → Runs (take n s) → n ≤ length r
