-- What a turn and a run of turns ensure.
use Rattle.std.specs.Prelude.{ℕ, ◌+◌, ◌≤◌, ◌<◌, ◌≡◌, List, [], ◌∷◌, ◌++◌, Bool, true, false, cond, length, take, drop, eqb}
use Rattle.program_lines.specs.Ends.{line_feed, before}
use Rattle.program_commands.specs.Command.{longest_line}
use Rattle.program_answers.specs.Answer.{answer_room}
use Rattle.program_stream.specs.Output.{output_of}
use Rattle.program_stream.specs.declared.Place.{Place}
use Rattle.program_stream.specs.declared.Step.{Step}
use Rattle.program_stream.specs.declared.Step.TheVariants as step

-- what stands behind the first line feed
unfoldable pub past_line : List ℕ → List ℕ
past_line [] = []
past_line (b ∷ s) = cond (eqb b line_feed) s (past_line s)

-- what is due for the bytes s, where they begin a line, or stand inside one that has been answered
abbrev pub due : List ℕ → Bool → List ℕ → List ℕ
due t false s = output_of t s
due t true s = output_of t (past_line s)

-- the bytes s are answered by the bytes w as far as that can be known, and s' is what is left: what is due for s and whatever follows is w,
-- and then what is due for s' and the same
pub record Answers (t : List ℕ) (skip : Bool) (s w t' : List ℕ) (skip' : Bool) (s' : List ℕ) : Type 0 where
  pub says : (rest : List ℕ) → due t skip (s ++ rest) ≡ w ++ due t' skip' (s' ++ rest)

-- the bytes s are answered no further before more is read: they have no line feed, and a line may be as long
pub record Waits (s : List ℕ) : Type 0 where
  pub none : length s ≤ before line_feed s
  pub short : length s ≤ longest_line

-- where a step has come to, and whether there may be more lines
abbrev pub place : Step → Place
place (step.More p) = p
place (step.Rest p) = p

abbrev pub goes_on : Step → Bool
goes_on (step.More p) = true
goes_on (step.Rest p) = false

-- the bytes from the place p on, with whatever follows, are answered by what the turn wrote and by what the rest is answered with
pub record Turned (input : List ℕ) (p : Place) (t out : List ℕ) (r : Step) (t' out' : List ℕ) : Type 0 where
  pub within : (place r).at ≤ length input
  pub room : (place r).made ≤ p.made + answer_room
  pub onward : goes_on r ≡ true → p.at < (place r).at
  pub short : goes_on r ≡ false → length input ≤ (place r).at + longest_line
  pub none : goes_on r ≡ false → length (drop (place r).at input) ≤ before line_feed (drop (place r).at input)
  pub says : (rest : List ℕ) → take p.made out ++ due t p.skip (drop p.at input ++ rest) ≡ take (place r).made out' ++ due t' (place r).skip (drop (place r).at input ++ rest)

-- the same for a run of turns, which writes from the start of the output; if the output has room for an answer and is full at the end, a line has been passed
pub record Consumed (input : List ℕ) (at : ℕ) (skip : Bool) (t : List ℕ) (r : Step) (t' out' : List ℕ) : Type 0 where
  pub within : (place r).at ≤ length input
  pub fits : (place r).made ≤ length out'
  pub onward : goes_on r ≡ true → answer_room ≤ length out' → at < (place r).at
  pub short : goes_on r ≡ false → length input ≤ (place r).at + longest_line
  pub none : goes_on r ≡ false → length (drop (place r).at input) ≤ before line_feed (drop (place r).at input)
  pub says : (rest : List ℕ) → due t skip (drop at input ++ rest) ≡ take (place r).made out' ++ due t' (place r).skip (drop (place r).at input ++ rest)

-- the last line, which lacks its line feed, is answered
pub record Finished (input : List ℕ) (skip : Bool) (t out' : List ℕ) (r : ℕ) : Type 0 where
  pub room : r ≤ answer_room
  pub says : length input ≤ before line_feed input → take r out' ≡ due t skip input
