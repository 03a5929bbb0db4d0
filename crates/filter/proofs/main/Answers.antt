-- The table is new.
use mathlib.Core.Path.{◌≡◌, sym, ◌∙◌}
use Prim.Native.Nat.{ℕ}
use lib.ListN.{replicate}
use Rattle.settings.specs.declared.settings.Settings.{Settings}
use Rattle.std.specs.Prelude.{Result, Ok}
use Rattle.settings.specs.declared.refusal.Refusal.{Refusal}
use Rattle.table.specs.Calls.{make_call}
use Rattle.program_answers.specs.Program.{program, program_bytes}
use Rattle.program_answers.specs.theory.Program.{program_bytes_lem}
use Rattle.program_stream.specs.Output.{new_table}
use Rattle.filter.proofs.main.Goals as goal

-- a table of as many bytes as the settings ask
module _ (n : ℕ) (e : n ≡ program_bytes) where
  -- made by the program's settings
  new : (s : Settings) → ◌≡◌ {A = Result Settings Refusal} (Ok s) (Ok program) → (make_call s (replicate n 0)).bytes ≡ new_table
  unfolding new_table
  new s p =
      let same : s ≡ program = cc in
      rw (e, same)

pub run-requires : goal.run-requires
run-requires c =
    c.make-made.ensures.bytes ∙ new _ (sym program_bytes_lem) c.in-Ok.s (sym c.in-Ok.is ∙ c.settings.ensures)
