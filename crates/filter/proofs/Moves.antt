-- How much a read or a write has moved.
use Rattle.std.proofs.Common.{◌≡◌, ℕ, ◌+◌, ◌≤◌, List, [], ◌++◌, take, drop, sym, subst, append_assoc, append-nil, take-add, Result, Ok, Err}
use Rattle.std.specs.Prelude.{IfOk}
use Rattle.std.specs.declared.io.Error.{Error}
use Rattle.std.proofs.Math.Seq.{take-take}
use Rattle.filter.specs.World.{Moved, Takes}

-- what std's read and write promise of their count
pub moved_within : (r : Result ℕ Error) (m : ℕ) (P : ℕ → Type 0) → ((n : ℕ) → P n → n ≤ m) → IfOk r P → Moved m r
moved_within (Ok k) m P f h = f k h
moved_within (Err e) m P f h = tt

pub takes_none : Takes []
takes_none v t = rw append-nil t

takes_then : (a b : List ℕ) → Takes a → Takes b → Takes (a ++ b)
takes_then a b f g v t = rw append_assoc at (g (v ++ a) (f v t))

-- the first `done` have been taken, and of those behind them n
pub takes_more : (buf : List ℕ) (done n k : ℕ) → Takes (take done buf) → n ≤ k → Takes (take n (take k (drop done buf))) → Takes (take (done + n) buf)
takes_more buf done n k f h g =
    let part : take n (take k (drop done buf)) ≡ take n (drop done buf) = take-take n k (drop done buf) h in
    subst Takes (sym (take-add done n buf)) (takes_then (take done buf) (take n (drop done buf)) f (subst Takes part g))
