-- Clauses 10.2 and 10.6: what is written for the bytes of standard input.
use Rattle.std.specs.Prelude.{ℕ, cond, List, [], ◌∷◌, ◌++◌, eqb, replicate}
use Rattle.text_read.specs.Reading.{on_first}
use Rattle.program_lines.specs.Ends.{line_feed}
use Rattle.table.specs.Calls.{make_call}
use Rattle.program_answers.specs.Program.{program, program_bytes}
use Rattle.program_answers.specs.Answer.{line_reply}

-- clause 10.2: the last line may lack its line feed, and nothing follows a final one
unfoldable pub lines_of : List ℕ → List (List ℕ)
lines_of [] = []
lines_of (b ∷ s) = cond (eqb b line_feed) ([] ∷ lines_of s) (on_first b (lines_of s))

-- every line is answered, in their order
unfoldable pub answers_to : List ℕ → List (List ℕ) → List ℕ
answers_to t [] = []
answers_to t (l ∷ ls) = (line_reply t l).answer ++ answers_to (line_reply t l).bytes ls

-- all that is written for all that is read, on the table t
unfoldable pub output_of : List ℕ → List ℕ → List ℕ
output_of t input = answers_to t (lines_of input)

-- the table that the program starts with: a new one
unfoldable pub new_table : List ℕ
new_table = (make_call program (replicate program_bytes 0)).bytes

-- all that the program writes for all that it reads
unfoldable pub program_output : List ℕ → List ℕ
program_output = output_of new_table
