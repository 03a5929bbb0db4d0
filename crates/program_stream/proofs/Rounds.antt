-- Turns, one after the other.
use Rattle.std.proofs.Common.{◌≡◌, Bool, List, ◌++◌, ℕ, ◌≤◌, ◌<◌, length, take, drop}
use Rattle.program_stream.specs.Steps.{due}
use Rattle.program_stream.specs.declared.Place.{Place}

-- at the place p, with the table t and the output `out`: what is due for the bytes from `at` on, whatever follows, is what has been written and what is due for the rest. Once something has been written, a line has been passed
pub record Going (input : List ℕ) (at : ℕ) (skip : Bool) (t₀ t out : List ℕ) (p : Place) : Type 0 where
  pub within : p.at ≤ length input
  pub fits : p.made ≤ length out
  pub onward : at ≤ p.at
  pub passed : 0 < p.made → at < p.at
  pub says : (rest : List ℕ) → due t₀ skip (drop at input ++ rest) ≡ take p.made out ++ due t p.skip (drop p.at input ++ rest)
