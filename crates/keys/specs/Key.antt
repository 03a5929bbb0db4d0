-- Section 3 of docs/SPECIFICATION.md: from a key to its list and back.
use Rattle.std.specs.Prelude.{ℕ, ◌+◌, ◌*◌, ◌/◌, ◌%◌, ◌^◌}
use Rattle.std.specs.Int.Bits.{bit_xor}
use Rattle.settings.specs.Prime.{prime_above}
use Rattle.settings.specs.Sizes.{bie}
use Rattle.settings.specs.declared.settings.Settings.{Settings}
use Rattle.keys.specs.declared.Key.{Key}
use Rattle.keys.specs.declared.Place.{Place}

-- the number that a key is, and the key that a number below 2 ^ 128 is
unfoldable pub key_number : Key → ℕ
key_number k = k.high * 2 ^ 64 + k.low

unfoldable pub key_of : ℕ → Key
key_of n = record { high = n / 2 ^ 64; low = n % 2 ^ 64 }

module _ (s : Settings) where
  -- clause 3.1: the first bits of a key are its index, the rest its entry
  unfoldable pub index : ℕ → ℕ
  index k = k / 2 ^ bie s

  unfoldable pub entry : ℕ → ℕ
  entry k = k % 2 ^ bie s

  -- clause 3.2, h(E): the remainder, cut to bii bits
  unfoldable pub hash : ℕ → ℕ
  hash e = (s.a * e + s.b) % prime_above s.bii % 2 ^ s.bii

  -- clause 3.2
  unfoldable pub list_number : ℕ → ℕ
  list_number k = bit_xor (index k) (hash (entry k))

  -- clause 3.3: a list's number and an entry give the key back
  unfoldable pub rebuilt : ℕ → ℕ → ℕ
  rebuilt list e = bit_xor list (hash e) * 2 ^ bie s + e

  -- where a key belongs
  unfoldable pub place_of : ℕ → Place
  place_of k = record { list = record { 0 = list_number k }; entry = key_of (entry k) }
