-- What a line asks for by its fields: an address without a space, alone or with a label behind it.
use Rattle.std.specs.Prelude.{◌≡◌, refl, true, List, [], ◌∷◌, ◌++◌, ℕ, ◌≤◌, length}
use Rattle.std.proofs.Math.Option.{Option, some}
use Rattle.std.proofs.Common.{arith, le-leb}
use Rattle.program_commands.specs.Fields.{space, fields}
use Rattle.program_commands.specs.Command.{Command, mk_command, op_of, label_of, addressed, takes_label, missing_label, asked, spelled, longest_line, command_of}
use Rattle.program_commands.specs.Steps.{spaceless}
use Rattle.program_commands.specs.declared.command.Op.{Op}
use Rattle.program_commands.specs.theory.Fields.{fields_one, fields_join}
use Rattle.program_commands.specs.theory.Labels.{label_means}
use Rattle.program_commands.specs.theory.Spaces.{digits_spaceless}

-- a line that is not too long: a byte, a space, and fields
pub fielded : (c : ℕ) (s : List ℕ) → length (c ∷ space ∷ s) ≤ longest_line → command_of (c ∷ space ∷ s) ≡ asked c (fields s)
unfolding command_of spelled
fielded c s h = rw (le-leb (length (c ∷ space ∷ s)) longest_line h)

addressed_some : (x : List ℕ) (c : Option Command) → 1 ≤ length x → addressed x c ≡ c
addressed_some [] c h = absurd (omega arith)
addressed_some (b ∷ x) c h = refl

pub asked_alone : (c : ℕ) (o : Op) (x : List ℕ) → op_of c ≡ some o → spaceless x ≡ true → 1 ≤ length x → asked c (fields x) ≡ some (mk_command o x (missing_label o))
unfolding asked
asked_alone c o x p t h = rw (fields_one x t, p) (addressed_some x (some (mk_command o x (missing_label o))) h)

pub asked_labelled : (c : ℕ) (o : Op) (x y : List ℕ) (v : ℕ) → op_of c ≡ some o → takes_label o ≡ true → label_of y ≡ some v → spaceless x ≡ true → 1 ≤ length x
    → asked c (fields (x ++ space ∷ y)) ≡ some (mk_command o x v)
unfolding asked
asked_labelled c o x y v p q e t h =
    rw (fields_join x y, fields_one x t, fields_one y (digits_spaceless y (label_means y v e).ten), e, p, q) (addressed_some x (some (mk_command o x v)) h)
