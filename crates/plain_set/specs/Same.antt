-- Clause 8.1: when two lists of pairs are the same set, and that no key stands twice.
use Rattle.std.specs.Prelude.{◌≡◌, Bool, List, ℕ, ◌≤◌}
use Rattle.laws.specs.Folds.{count}
use Rattle.plain_set.specs.Rebuilt.{Pair}
use Rattle.plain_set.specs.Set.{has_key}

-- as many pairs of either pass any test
abbrev pub SamePairs : List Pair → List Pair → Type 0
SamePairs ps qs = (f : Pair → Bool) → count f ps ≡ count f qs

abbrev pub NoKeyTwice : List Pair → Type 0
NoKeyTwice ps = (k : ℕ) → count (has_key k) ps ≤ 1
