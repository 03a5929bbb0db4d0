-- The first `done` bytes have been taken.
use Rattle.std.proofs.Common.{ℕ, ◌≤◌, List, length, take}
use Rattle.filter.specs.World.{Takes}
use Rattle.filter.proofs.write_out.Given as goal

pub record Inv (buf : List ℕ) (done : ℕ) : Type 0 where
  pub within : done ≤ length buf
  pub takes : Takes (take done buf)

abbrev pub invariant-loop : goal.invariant-loop
invariant-loop l = Inv l.buf l.done
