-- How long the parts of an answer are.
use mathlib.Core.Path.{◌≡◌, refl}
use Prim.Native.Nat.{ℕ, ◌^◌, ◌≤◌, ◌<◌}
use mathlib.Core.List.{[], ◌∷◌, ◌++◌}
use native.Mathlib.Omega.{arith}
use lib.ListN.{length, length-append}
use lib.Dec.{lit≤}
use Rattle.text_write.specs.Ascii.{ascii}
use Rattle.program_answers.specs.Answer.{word_text, numbers_text}
use Rattle.text_write.specs.Decimal.{decimal_text}
use Rattle.program_answers.specs.Steps.{Change}
use Rattle.text_write.specs.theory.Decimal.{decimal_short}
use Rattle.table.specs.declared.answers.Word.{Word}
use Rattle.table.specs.declared.answers.Word.TheVariants as word

pub word_short : (w : Word) → length (word_text w) ≤ 12
unfolding word_text ascii
word_short word.Added = lit≤ tt
word_short word.Held = lit≤ tt
word_short word.Gone = lit≤ tt
word_short word.None = lit≤ tt
word_short word.Relabelled = lit≤ tt

-- of the words of a change, what is neither "added" nor "gone" is "relabelled"
pub relabelled_text : (w : Word) → Change w → (w ≡ word.Added → ⊥) → (w ≡ word.Gone → ⊥) → word_text w ≡ ascii " relabelled "
unfolding word_text
relabelled_text word.Added h n m = absurd (n refl)
relabelled_text word.Held h n m = absurd (h.0 refl)
relabelled_text word.Gone h n m = absurd (m refl)
relabelled_text word.None h n m = absurd (h.1 refl)
relabelled_text word.Relabelled h n m = refl

pub numbers_short : (label compared : ℕ) → label < 2 ^ 32 → compared < 2 ^ 32 → length (numbers_text label compared) ≤ 22
unfolding numbers_text
numbers_short label compared l c =
    let x = length-append (decimal_text label ++ 32 ∷ decimal_text compared) (10 ∷ []) in
    let y = length-append (decimal_text label) (32 ∷ decimal_text compared) in
    omega (arith, x, y, decimal_short label l, decimal_short compared c)
