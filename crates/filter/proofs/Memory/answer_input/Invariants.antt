-- At each turn the loop stands where a run of the program may stand.
use Rattle.filter.specs.Loop.{Stands}
use Rattle.filter.proofs.Memory.answer_input.Given as goal

abbrev pub invariant-loop : goal.invariant-loop
invariant-loop l = Stands l.s l.self.buf l.self.t
