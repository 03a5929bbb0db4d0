-- The laws of where the first byte stands.
use Rattle.std.specs.Prelude.{◌≡◌, List, Bool, true, false, ℕ, ◌+◌, ◌≤◌, ◌<◌, length, get_or}
use Rattle.std.proofs.Common.{arith, drop_of_length-le, drop-cons}
use Rattle.laws.specs.Lists.{drop_next}
use Rattle.byte_search.specs.First.{before, first_from}

-- ---- a byte that passes, one that does not, and past the end

module _ (p : ℕ → Bool) (s : List ℕ) (i : ℕ) where
  pub hit : i < length s → p (get_or s i 0) ≡ true → first_from p s i ≡ i
  unfolding before first_from
  hit h e = rw (drop-cons s i 0 h) (rw e (omega arith))

  pub miss : i < length s → p (get_or s i 0) ≡ false → first_from p s i ≡ first_from p s (i + 1)
  unfolding before first_from
  miss h n = rw (drop_next s i 0 h) (rw n (omega arith))

  pub over : length s ≤ i → first_from p s i ≡ i
  unfolding before first_from
  over h = rw (drop_of_length-le s h) (omega arith)
