-- Which records stand on which page (clause 9.9).
use Rattle.std.specs.Prelude.{ℕ, ◌+◌, ◌-◌, ◌*◌, ◌/◌, cond, List, ◌++◌, take, drop, eqb}
use Rattle.plain_set.specs.Rebuilt.{Pair}
use Rattle.text_sheet.specs.Row.{heading, rows}

-- how many pages n records have: 40 on each but the last, and one page if there is no record
unfoldable pub page_count : ℕ → ℕ
page_count n = cond (eqb n 0) 1 ((n + 39) / 40)

-- the records on page k; pages count from 1
unfoldable pub pairs_on : List Pair → ℕ → List Pair
pairs_on ps k = take 40 (drop (40 * (k - 1)) ps)

-- a heading line, and the rows
unfoldable pub page_text : List Pair → ℕ → List ℕ
page_text ps k = heading ++ rows (pairs_on ps k)
