-- Clause 9.4: what reading the run that a text begins with answers.
use Rattle.std.specs.Prelude.{ℕ, List, length, Result, Ok, Err}
use Rattle.keys.specs.declared.Key.{Key}
use Rattle.settings.specs.declared.refusal.Refusal.{Refusal}
use Rattle.text_read.specs.Answers.{reading_of}
use Rattle.text_run.specs.Run.{run}
use Rattle.text_run.specs.declared.Taken.{Taken}

-- what was read of n bytes
unfoldable pub taking : ℕ → Result Key Refusal → Result Taken Refusal
taking n (Ok k) = Ok (record { key = k; bytes = n })
taking n (Err why) = Err why

-- "requires that whole run to be legal, and answers how many bytes it took"
unfoldable pub taken_of : List ℕ → Result Taken Refusal
taken_of s = taking (length (run s)) (reading_of (run s))
