-- The search for any test, at the test for b.
use Rattle.std.proofs.Common.{eqb, of_calls, ◌∙◌}
use Rattle.program_lines.specs.theory.Ends.{first_same}
use Rattle.program_lines.proofs.find_byte.Goals as goal

pub returns : goal.returns
returns c = let a = c.args in c.first.ensures (λ x. eqb x a.b) (λ x r h e. search of_calls) ∙ first_same a.b a.s.now a.at
