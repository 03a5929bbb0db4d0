-- Clause 10.3: the command in a line.
use Rattle.std.specs.Prelude.{ℕ, Bool, true, false, cond, ◌&&◌, List, [], ◌∷◌, length, eqb, leb}
use Rattle.std.proofs.Math.Option.{Option, none, some}
use Rattle.text_read.specs.Numerals.{digits, number, no_leading_zero}
use Rattle.program_commands.specs.Fields.{space, fields}
use Rattle.program_commands.specs.declared.command.Op.{Op}
use Rattle.program_commands.specs.declared.command.Op.TheVariants as op

pub record Command : Type 0 where
  pub op : Op
  pub address : List ℕ
  pub label : ℕ

abbrev pub mk_command : Op → List ℕ → ℕ → Command
mk_command o x n = record { op = o; address = x; label = n }

-- '+' is 43, '-' is 45, '=' is 61, '?' is 63
unfoldable pub op_of : ℕ → Option Op
op_of c =
    cond (eqb c 43) (some op.Enter) (cond (eqb c 61) (some op.Relabel) (cond (eqb c 45) (some op.Delete) (cond (eqb c 63) (some op.Find) none)))

-- one to three decimal digits without a leading zero, or 0
unfoldable pub label_of : List ℕ → Option ℕ
label_of y = cond (digits 10 y && leb 1 (length y) && leb (length y) 3 && no_leading_zero y) (some (number 10 0 y)) none

-- one or more bytes, none a space
abbrev pub addressed : List ℕ → Option Command → Option Command
addressed [] c = none
addressed (b ∷ x) c = c

abbrev pub takes_label : Op → Bool
takes_label op.Enter = true
takes_label op.Relabel = true
takes_label op.Delete = false
takes_label op.Find = false

-- a missing label means 1; an op that takes no label has 0
abbrev pub missing_label : Op → ℕ
missing_label o = cond (takes_label o) 1 0

abbrev pub without_label : Option Op → List ℕ → Option Command
without_label none x = none
without_label (some o) x = some (mk_command o x (missing_label o))

abbrev pub with_label : Option Op → List ℕ → Option ℕ → Option Command
with_label none x m = none
with_label (some o) x none = none
with_label (some o) x (some n) = cond (takes_label o) (some (mk_command o x n)) none

-- the command of the byte c and the fields behind it: an address, with a label or without
unfoldable pub asked : ℕ → List (List ℕ) → Option Command
asked c [] = none
asked c (x ∷ []) = addressed x (without_label (op_of c) x)
asked c (x ∷ y ∷ []) = addressed x (with_label (op_of c) x (label_of y))
asked c (x ∷ y ∷ z ∷ f) = none

unfoldable pub spelled : List ℕ → Option Command
spelled [] = none
spelled (c ∷ []) = none
spelled (c ∷ d ∷ s) = cond (eqb d space) (asked c (fields s)) none

-- clause 10.3: a command has at most 64 bytes
abbrev pub longest_line : ℕ
longest_line = 64

unfoldable pub command_of : List ℕ → Option Command
command_of l = cond (leb (length l) longest_line) (spelled l) none
