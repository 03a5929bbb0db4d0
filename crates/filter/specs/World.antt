-- Words for what reads give and writes take. No contract of the kit says which bytes these are, and no value of the program holds them all. So `Given`
-- and `Taken` are shut: outside this file only the rules below lead to them. `given_more` is cited by the proof of `read_once` alone, `taken_more` by that
-- of `write_once` alone, the beginnings and `erred` by the proofs that tests/run lists: who knows what read and write do sees in these two functions, of
-- one call each, that the words mean what they say. What they do not say: that nothing else was read or written, how often and in which order calls were
-- made, that the input has ended. And they are never used up: a contract that only says that there are such pieces and bytes can be met with none. What
-- holds the loop is its invariant, `Stands`, which the proof of `answer_input` carries from call to call, and the equations `Answered` and `Read`.
use Rattle.std.specs.Prelude.{ℕ, ◌≡◌, ◌≤◌, Bool, true, false, List, [], ◌∷◌, ◌++◌, take, Result, Ok, Err}
use Rattle.std.specs.declared.io.Error.{Error}

-- reads of standard input have given these pieces
pub Given : List (List ℕ) → Type 0
Given cs = Unit

-- writes to standard output have taken these bytes
pub Taken : List ℕ → Type 0
Taken w = Unit

-- a read or a write has failed, or a counter that no run uses up has been used up. `erred` is cited by the proofs of `read_some` and `write_out` where they
-- answer an error, and by that of `answer_input` where the counter has come to its end
pub Erred : Type 0
Erred = Unit

pub erred : Erred
unfolding Erred
erred = tt

-- one more piece is given; more bytes are taken
abbrev pub Gives : List ℕ → Type 0
Gives c = (cs : List (List ℕ)) → Given cs → Given (cs ++ c ∷ [])

abbrev pub Takes : List ℕ → Type 0
Takes w = (v : List ℕ) → Taken v → Taken (v ++ w)

pub given_none : Given []
unfolding Given
given_none = tt

pub given_more : (c : List ℕ) → Gives c
unfolding Given
given_more c cs g = tt

pub taken_none : Taken []
unfolding Taken
taken_none = tt

pub taken_more : (w : List ℕ) → Takes w
unfolding Taken
taken_more w v h = tt

-- what a read or a write of n bytes may answer: an error, or how many bytes it has moved, at most n
abbrev pub Moved : ℕ → Result ℕ Error → Type 0
Moved n (Ok k) = k ≤ n
Moved n (Err e) = Unit {0}

-- how many bytes a read or a write has moved that answers r: none if it failed
abbrev pub moved : Result ℕ Error → ℕ
moved (Ok k) = k
moved (Err e) = 0

-- `write_out`: of the bytes w as many as `much` were taken, and all unless there was an error
pub record Wrote (w : List ℕ) (r : Bool) : Type 0 where
  pub much : ℕ
  pub takes : Takes (take much w)
  pub whole : r ≡ true → take much w ≡ w
  pub errs : r ≡ false → Erred
