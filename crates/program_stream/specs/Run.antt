-- The program's run over the pieces that its reads give. Each step is the contract of a function of the program's loop.
use Rattle.std.specs.Prelude.{ℕ, ◌≡◌, Bool, false, List, [], ◌∷◌, ◌++◌}
use Rattle.program_stream.specs.Output.{new_table}
use Rattle.program_stream.specs.Steps.{due, Answers, Waits}

-- all pieces, one after the other
unfoldable pub joined : List (List ℕ) → List ℕ
joined [] = []
joined (c ∷ cs) = c ++ joined cs

-- a run that writes `out` in all: on the table t, with the bytes `left` that are read and not yet answered, where `skip` says
-- that they begin inside a line that has been answered, and with the pieces that are yet to be read
pub data Run : (t : List ℕ) (skip : Bool) (left : List ℕ) (pieces : List (List ℕ)) (out : List ℕ) → Type 0 where
  -- the answers to what is left are written, as far as they can be known
  answered : {t : List ℕ} {skip : Bool} {left w t' : List ℕ} {skip' : Bool} {left' : List ℕ} {cs : List (List ℕ)} {out : List ℕ}
      → Answers t skip left w t' skip' left'
      → Run t' skip' left' cs out
      → Run t skip left cs (w ++ out)
  -- then a read puts one piece more behind what is left
  read : {t : List ℕ} {skip : Bool} {left c : List ℕ} {cs : List (List ℕ)} {out : List ℕ}
      → Waits left
      → Run t skip (left ++ c) cs out
      → Run t skip left (c ∷ cs) out
  -- or the input ends: what is left is answered as a last line
  ended : {t : List ℕ} {skip : Bool} {left out : List ℕ}
      → Waits left
      → out ≡ due t skip left
      → Run t skip left [] out

-- a run of the program that has come so far: it has read the pieces and written `out`, and from here on it runs as any that stands here
pub record Sofar (pieces : List (List ℕ)) (out t : List ℕ) (skip : Bool) (left : List ℕ) : Type 0 where
  pub goes : (cs : List (List ℕ)) (more : List ℕ) → Run t skip left cs more → Run new_table false [] (pieces ++ cs) (out ++ more)
