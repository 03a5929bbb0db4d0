-- Clause 9.4: the run that a text begins with.
use Rattle.std.specs.Prelude.{ℕ, cond, List, [], ◌∷◌, eqb}
use Rattle.text_read.specs.Class.{class_of, other}

-- "the longest run of hexadecimal digit, colon and dot bytes from where it starts"
unfoldable pub run : List ℕ → List ℕ
run [] = []
run (x ∷ s) = cond (eqb (class_of x) other) [] (x ∷ run s)
