-- Where a byte stands, and where a line ends.
use Rattle.std.specs.Prelude.{ℕ, suc, ◌+◌, List, [], ◌∷◌, cond, length, drop, eqb, ltb, Option, Some, None}

-- the number of bytes before the first b, or of all bytes where there is none
unfoldable pub before : ℕ → List ℕ → ℕ
before b [] = 0
before b (x ∷ s) = cond (eqb x b) 0 (suc (before b s))

-- the place of the first b at `at` or after it
unfoldable pub first_from : ℕ → List ℕ → ℕ → ℕ
first_from b s at = at + before b (drop at s)

-- the line feed is 10
abbrev pub line_feed : ℕ
line_feed = 10

-- where the line at a position ends, if a line feed ends it
unfoldable pub span_at : List ℕ → ℕ → Option ℕ
span_at s at = cond (ltb (first_from line_feed s at) (length s)) (Some (first_from line_feed s at)) None
