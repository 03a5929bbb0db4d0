-- Words of the contracts that speak of groups which are read: what they stand for, and what they make of an address.
use Rattle.std.specs.Prelude.{ℕ, ◌+◌, ◌-◌, ◌*◌, ◌^◌, ◌≤◌, ◌<◌, cond, ltb, Result, Ok, Err}
use Rattle.keys.specs.declared.Key.{Key}
use Rattle.keys.specs.Key.{key_of}
use Rattle.settings.specs.declared.refusal.Refusal.{Refusal}
use Rattle.settings.specs.declared.refusal.Refusal.TheVariants as refusal

-- groups, by the number that they stand for, and by how many they are
pub record Gathered : Type 0 where
  pub number : ℕ
  pub count : ℕ

-- n groups that stand for the number v
abbrev pub made : ℕ → ℕ → Gathered
made v n = record { number = v; count = n }

-- two halves that stand for a number of as many digits to the base 65536, eight at most
pub record Sized (high low count : ℕ) : Type 0 where
  pub fits : high * 2 ^ 64 + low < 65536 ^ count
  pub half : low < 2 ^ 64
  pub most : count ≤ 8

-- eight groups, of which n with the number v stand before "::", and m with the number w behind it
unfoldable pub filled_with : ℕ → ℕ → ℕ → ℕ → Result Key Refusal
filled_with v n w m = cond (ltb (n + m) 8) (Ok (key_of (v * 65536 ^ (8 - n) + w))) (Err refusal.Text)
