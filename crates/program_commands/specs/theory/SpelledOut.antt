-- Clause 10.3: every "+" or "=" line with a legal address can have its label spelled out, and without one it is the line with 1.
use Rattle.std.specs.Prelude.{◌≡◌, refl, true, List, [], ◌∷◌, ◌++◌, ℕ, Ok}
use Rattle.std.proofs.Common.{sym, ◌∙◌, arith, length-append}
use Rattle.std.proofs.Math.Option.{some}
use Rattle.keys.specs.declared.Key.{Key}
use Rattle.text_read.specs.Numerals.{digits, number, no_leading_zero}
use Rattle.text_read.specs.Class.{class_of}
use Rattle.text_read.specs.Answers.{reading_of}
use Rattle.text_read.proofs.Lengths.{read_length}
use Rattle.program_commands.specs.Fields.{space}
use Rattle.program_commands.specs.Command.{mk_command, op_of, label_of, takes_label, command_of}
use Rattle.program_commands.specs.declared.command.Op.{Op}
use Rattle.program_commands.specs.theory.Labels.{label_means}
use Rattle.program_commands.specs.theory.Asked.{fielded, asked_alone, asked_labelled}
use Rattle.program_commands.specs.theory.Spaces.{read_spaceless}

-- o is the op of the byte c, and takes a label; x is a legal address
module _ (c : ℕ) (o : Op) (stands : op_of c ≡ some o) (takes : takes_label o ≡ true) (x : List ℕ) (k : Key) (legal : reading_of x ≡ Ok k) where
  -- the line with a space and any label behind it
  pub spelled_out : (y : List ℕ) (v : ℕ) → label_of y ≡ some v → command_of (c ∷ space ∷ x ++ space ∷ y) ≡ some (mk_command o x v)
  spelled_out y v e =
      let n = read_length x k legal in
      fielded c (x ++ space ∷ y) (omega (arith, length-append x (space ∷ y), (label_means y v e).high))
      ∙ asked_labelled c o x y v stands takes e (read_spaceless x k legal) (omega arith)

  -- the line without a label
  pub missing_label_lem : command_of (c ∷ space ∷ x) ≡ some (mk_command o x 1)
  missing_label_lem =
      let n = read_length x k legal in
      fielded c x (omega arith) ∙ rw takes at (asked_alone c o x stands (read_spaceless x k legal) (omega arith))

  -- is the line with " 1" behind it; " 0" is what it meant before
  pub missing_is_one : command_of (c ∷ space ∷ x) ≡ command_of (c ∷ space ∷ x ++ space ∷ 49 ∷ [])
  missing_is_one = missing_label_lem ∙ sym (spelled_out (49 ∷ []) 1 (unfold label_of digits number no_leading_zero class_of in refl))

  pub zero_spelled_out : command_of (c ∷ space ∷ x ++ space ∷ 48 ∷ []) ≡ some (mk_command o x 0)
  zero_spelled_out = spelled_out (48 ∷ []) 0 (unfold label_of digits number no_leading_zero class_of in refl)
