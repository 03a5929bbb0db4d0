-- Words that only private contracts use.
use Rattle.std.specs.Prelude.{◌≡◌, Bool, true, false, cond, Option, Some, None, List, ℕ, ◌-◌, ◌≤◌, length, get_or, take, drop, eqb, ltb}
use Rattle.std.proofs.Math.Option.{none, some}
use Rattle.std.proofs.Math.Option as maybe
use Rattle.settings.specs.declared.refusal.Refusal.{Refusal}
use Rattle.settings.specs.declared.refusal.Refusal.TheVariants as refusal
use Rattle.text_read.specs.Numerals.{digits, number}
use Rattle.program_lines.specs.Ends.{before}
use Rattle.program_commands.specs.Fields.{space}
use Rattle.program_commands.specs.Command.{Command, mk_command, op_of, takes_label, longest_line, command_of}
use Rattle.program_commands.specs.declared.command.Op.{Op}
use Rattle.program_commands.specs.declared.command.Request.{Request}

-- a label, as `label_from` answers it
abbrev pub label_read : maybe.Option ℕ → Option ℕ
label_read none = None
label_read (some n) = Some n

-- the decimal number that y spells, if it is one
abbrev pub NumberRead : List ℕ → Option ℕ → Type 0
NumberRead y None = digits 10 y ≡ false
NumberRead y (Some n) = (digits 10 y ≡ true) × (number 10 0 y ≡ n)

unfoldable pub label_room : ℕ → ℕ
label_room n = cond (ltb n 6) 2 (n - 4)

-- a line of 3 bytes or more, and not too long, that begins with the byte c and a space
pub record Begins (l : List ℕ) (c : ℕ) : Type 0 where
  pub low : 3 ≤ length l
  pub high : length l ≤ longest_line
  pub first : get_or l 0 0 ≡ c
  pub second : get_or l 1 0 ≡ space

-- such a line, whose first byte stands for o, which takes a label
pub record Labelled (l : List ℕ) (o : Op) : Type 0 where
  pub byte : ℕ
  pub begins : Begins l byte
  pub stands : op_of byte ≡ some o
  pub takes : takes_label o ≡ true

-- no byte of the text is a space
unfoldable pub spaceless : List ℕ → Bool
spaceless x = eqb (before space x) (length x)

-- the line's bytes from 2 to e
abbrev pub address_in : List ℕ → ℕ → List ℕ
address_in l e = take (e - 2) (drop 2 l)

-- what the answer of `parse` stands for
unfoldable pub requested : List ℕ → Option Request → maybe.Option Command
requested l (Some q) =
    cond (spaceless (address_in l q.end)) (some (mk_command q.op (address_in l q.end) q.label)) none
requested l None = none

abbrev pub Bounded : List ℕ → Option Request → Type 0
Bounded l (Some q) = (2 ≤ q.end) × (q.end ≤ length l)
Bounded l None = Unit {0}

pub record Asks (l : List ℕ) (r : Option Request) : Type 0 where
  pub is : command_of l ≡ requested l r
  pub bounded : Bounded l r

unfoldable pub unread_for : List ℕ → Refusal
unread_for x = cond (spaceless x) refusal.Text refusal.Line
