-- An example of clause 3.2.
use Rattle.std.specs.Prelude.{◌≡◌, ◌+◌, ◌*◌, ◌%◌}
use Rattle.std.proofs.Common.{arith}
use Rattle.settings.specs.Prime.{prime_above}
use Rattle.keys.specs.Key.{hash}
use Rattle.settings.specs.theory.Primes.{prime_table}
use Rattle.settings.specs.declared.settings.Settings.{Settings}

-- with bii 3, a 1 and b 1 the entry 7 has the remainder 8, which is cut to 0, whatever the other settings are
module _ (s : Settings) (bii : s.bii ≡ 3) (a : s.a ≡ 1) (b : s.b ≡ 1) where
  pub remainder_of_7 : (s.a * 7 + s.b) % prime_above s.bii ≡ 8
  remainder_of_7 = rw (a, b, bii, prime_table 3 (omega arith))

  pub hash_of_7 : hash s 7 ≡ 0
  unfolding hash
  hash_of_7 = rw (remainder_of_7, bii)
