-- The lines of a page (clause 9.8).
use Rattle.std.specs.Prelude.{ℕ, ◌-◌, List, [], ◌∷◌, ◌++◌, length, replicate}
use Rattle.keys.specs.Key.{key_of}
use Rattle.text_write.specs.Ascii.{ascii}
use Rattle.text_write.specs.Decimal.{decimal_text}
use Rattle.text_write.specs.Writing.{written}
use Rattle.plain_set.specs.Rebuilt.{Pair}

-- a text at the left of n columns, and at the right; the space is 32
unfoldable pub left_in : ℕ → List ℕ → List ℕ
left_in n x = x ++ replicate (n - length x) 32

unfoldable pub right_in : ℕ → List ℕ → List ℕ
right_in n x = replicate (n - length x) 32 ++ x

-- 50 bytes and a line feed (10): the address left in 39 columns, a space, the label right in 10
unfoldable pub row : List ℕ → List ℕ → List ℕ
row address label = left_in 39 address ++ 32 ∷ (right_in 10 label ++ 10 ∷ [])

-- the heading, set the same way
unfoldable pub heading : List ℕ
heading = row (ascii "ADDRESS") (ascii "LABEL")

-- the row of a record: its address as it is written, its label in decimal
unfoldable pub pair_row : Pair → List ℕ
pair_row p = let k = key_of p.key in row (written k.high k.low) (decimal_text p.label)

unfoldable pub rows : List Pair → List ℕ
rows [] = []
rows (p ∷ ps) = pair_row p ++ rows ps
