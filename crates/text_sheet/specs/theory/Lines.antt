-- Every line of a page has 51 bytes: no address is longer than 39, and no label of 32 bits has more than ten digits.
use Rattle.std.specs.Prelude.{◌≡◌, refl, List, [], ◌∷◌, ◌++◌, ℕ, ◌-◌, ◌*◌, ◌^◌, ◌≤◌, ◌<◌, length, replicate}
use Rattle.std.proofs.Common.{sym, ap, ◌∙◌, append_assoc, arith, length-append}
use Rattle.std.proofs.lemmas.List.{length-replicate}
use Rattle.table.specs.theory.Formed.{All, all_nil, all_cons}
use Rattle.keys.specs.Key.{key_of}
use Rattle.text_write.specs.Ascii.{ascii}
use Rattle.text_write.specs.Decimal.{decimal_text}
use Rattle.text_write.specs.Writing.{written}
use Rattle.text_write.specs.theory.Decimal.{decimal_short}
use Rattle.text_write.specs.theory.Lengths.{written_length}
use Rattle.plain_set.specs.Rebuilt.{Pair}
use Rattle.text_sheet.specs.Row.{left_in, right_in, row, heading, pair_row, rows}

-- One line ----------------------------------------------------------------------------------------------------------------

left_length : (n : ℕ) (x : List ℕ) → length x ≤ n → length (left_in n x) ≡ n
unfolding left_in
left_length n x h = omega (arith, length-append x (replicate (n - length x) 32), length-replicate {A = ℕ} (n - length x) 32)

right_length : (n : ℕ) (x : List ℕ) → length x ≤ n → length (right_in n x) ≡ n
unfolding right_in
right_length n x h = omega (arith, length-append (replicate (n - length x) 32) x, length-replicate {A = ℕ} (n - length x) 32)

pub row_length : (address label : List ℕ) → length address ≤ 39 → length label ≤ 10 → length (row address label) ≡ 51
unfolding row
row_length a l h k =
    omega (
      arith,
      length-append (left_in 39 a) (32 ∷ (right_in 10 l ++ 10 ∷ [])),
      length-append (right_in 10 l) (10 ∷ []),
      left_length 39 a h,
      right_length 10 l k,
    )

pub heading_length : length heading ≡ 51
unfolding heading ascii
heading_length = row_length (ascii "ADDRESS") (ascii "LABEL") (omega arith) (omega arith)

-- The rows of records -----------------------------------------------------------------------------------------------------

-- the label is one of 32 bits, as every label of a table is
abbrev pub Labelled : Pair → Type 0
Labelled p = p.label < 2 ^ 32

pub pair_row_length : (p : Pair) → Labelled p → length (pair_row p) ≡ 51
unfolding pair_row
pair_row_length p h =
    let k = key_of p.key in
    row_length (written k.high k.low) (decimal_text p.label) (written_length k.high k.low) (decimal_short p.label h)

pub rows_length : (ps : List Pair) → All Labelled ps → length (rows ps) ≡ 51 * length ps
unfolding rows
rows_length [] all_nil = refl
rows_length (p ∷ ps) (all_cons h hs) = omega (arith, length-append (pair_row p) (rows ps), pair_row_length p h, rows_length ps hs)

pub rows_append : (ps qs : List Pair) → rows (ps ++ qs) ≡ rows ps ++ rows qs
unfolding rows
rows_append [] qs = refl
rows_append (p ∷ ps) qs =
    ap (λ (l : List ℕ). pair_row p ++ l) (rows_append ps qs) ∙ sym (append_assoc (pair_row p) (rows ps) (rows qs))
