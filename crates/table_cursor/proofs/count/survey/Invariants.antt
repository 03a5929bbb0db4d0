-- The lists before list i are whole and have count entries, and record n, if it is one of theirs, is entry skip of `list`.
use Rattle.table_cursor.proofs.SurveyLaws.{Passed, Stands}
use Rattle.table_cursor.proofs.count.survey.Given as goal

abbrev pub invariant-loop-i : goal.invariant-loop-i
invariant-loop-i l = Passed l.g l.t l.count l.i × Stands l.g l.t l.n l.count l.list l.skip
