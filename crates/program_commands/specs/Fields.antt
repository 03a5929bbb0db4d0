-- Clause 10.3: fields, parted by one space.
use Rattle.std.specs.Prelude.{ℕ, cond, List, [], ◌∷◌, eqb}
use Rattle.text_read.specs.Reading.{on_first}

-- the space is 32
abbrev pub space : ℕ
space = 32

-- the fields between the spaces: one more than there are spaces
unfoldable pub fields : List ℕ → List (List ℕ)
fields [] = [] ∷ []
fields (b ∷ s) = cond (eqb b space) ([] ∷ fields s) (on_first b (fields s))
