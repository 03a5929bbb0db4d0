-- After j turns the first j blocks are linked.
use Rattle.std.proofs.Common.{◌≡◌}
use Rattle.table_make.specs.NewSteps.{linked}
use Rattle.table_make.proofs.link_free.Given as goal

abbrev pub invariant-loop-j : goal.invariant-loop-j
invariant-loop-j l = l.t ≡ linked l.g l.j l.initial.t
