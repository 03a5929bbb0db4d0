-- A word of the proofs of `run_length`: where a run ends that goes on.
use Rattle.std.specs.Prelude.{List, ℕ, ◌+◌, length, drop}
use Rattle.text_run.specs.Run.{run}

-- where the run ends that goes on from i
unfoldable pub run_end : List ℕ → ℕ → ℕ
run_end s i = i + length (run (drop i s))
