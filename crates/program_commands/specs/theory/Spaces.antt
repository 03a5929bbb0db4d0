-- Texts in which no space can stand.
use Rattle.std.specs.Prelude.{◌≡◌, refl, true, List, [], ◌∷◌, ℕ, Ok}
use Rattle.std.proofs.Common.{◌∙◌, arith, ne_eqb}
use Rattle.std.proofs.lemmas.Bool.{eqb-false}
use Rattle.keys.specs.declared.Key.{Key}
use Rattle.text_read.specs.Class.{class_of, other}
use Rattle.text_read.specs.Numerals.{digits}
use Rattle.text_read.specs.Answers.{reading_of}
use Rattle.text_read.specs.theory.Numerals.{digits_first}
use Rattle.text_read.specs.theory.Splits.{Without}
use Rattle.text_read.proofs.Spaces.{read_classes}
use Rattle.program_commands.specs.Fields.{space}
use Rattle.program_commands.specs.Steps.{spaceless}
use Rattle.program_commands.specs.theory.Fields.{spaceless_nil, spaceless_other}

-- a space is no digit, colon or dot
space_class : class_of space ≡ other
unfolding class_of
space_class = refl

pub known_spaceless : (x : List ℕ) → Without other x → spaceless x ≡ true
known_spaceless [] w = spaceless_nil
known_spaceless (b ∷ x) w =
    spaceless_other b x (ne_eqb b space (λ e. eqb-false (class_of b) other w.0 (rw e space_class))) ∙ known_spaceless x w.1

digits_known : (x : List ℕ) → digits 10 x ≡ true → Without other x
digits_known [] e = tt
digits_known (b ∷ x) e =
    let p = digits_first 10 b x e in
    (ne_eqb (class_of b) other (λ q. omega (arith, p.0)), digits_known x p.1)

-- a text of decimal digits
pub digits_spaceless : (x : List ℕ) → digits 10 x ≡ true → spaceless x ≡ true
digits_spaceless x e = known_spaceless x (digits_known x e)

-- a legal address
pub read_spaceless : (x : List ℕ) (k : Key) → reading_of x ≡ Ok k → spaceless x ≡ true
read_spaceless x k e = known_spaceless x (read_classes x k e)
