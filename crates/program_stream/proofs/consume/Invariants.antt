-- The reader stands in the input at the place, and the turns so far are told as one. Every turn that another may follow passes a line.
use Rattle.std.proofs.Common.{◌≡◌, ◌-◌, length}
use Rattle.program_stream.proofs.Rounds.{Going}
use Rattle.program_stream.proofs.consume.Given as goal

abbrev pub invariant-loop-out : goal.invariant-loop-out
invariant-loop-out l = record {
  src : l.l.src.now ≡ l.fn.input;
  place : l.l.at ≡ l.p.at;
  going : Going l.fn.input l.fn.at l.fn.skip l.fn.t l.t l.out l.p;
}

abbrev pub decreases-loop-out : goal.decreases-loop-out
decreases-loop-out l = length l.fn.input - l.p.at
