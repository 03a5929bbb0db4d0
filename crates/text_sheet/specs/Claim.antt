-- What the sheet of a table is, all pages together (clauses 9.8 to 9.11).
use Rattle.std.specs.Prelude.{◌≡◌, List, [], ◌++◌, ℕ, zero, suc, ◌*◌, ◌≤◌, ◌<◌, length, get_or, drop, Ok}
use Rattle.settings.specs.declared.settings.Settings.{Settings}
use Rattle.settings.specs.Reply.{reply}
use Rattle.table.specs.Calls.{record_call}
use Rattle.plain_set.specs.Rebuilt.{Pair, pair}
use Rattle.plain_set.specs.Nth.{nth_record}
use Rattle.text_sheet.specs.Row.{pair_row}
use Rattle.text_sheet.specs.Pages.{page_count, pairs_on, page_text}
use Rattle.text_sheet.specs.Answers.{page_room, records, page_call}

-- the records of pages 1 to n, one page behind the other
abbrev pub joined : List Pair → ℕ → List Pair
joined ps zero = []
joined ps (suc n) = joined ps n ++ pairs_on ps (suc n)

-- the pages of the records ps
pub record Whole (ps : List Pair) : Type 0 where
  -- joined, they list every record exactly once, in record order
  pub all : joined ps (page_count (length ps)) ≡ ps
  -- every page but the last has 40, and none has more
  pub full : (k : ℕ) → 1 ≤ k → k < page_count (length ps) → length (pairs_on ps k) ≡ 40
  pub most : (k : ℕ) → length (pairs_on ps k) ≤ 40
  -- a list that is empty has one page; each page of any other has a row
  pub one : length ps ≡ 0 → page_count (length ps) ≡ 1
  pub some : 0 < length ps → (k : ℕ) → 1 ≤ k → k ≤ page_count (length ps) → 0 < length (pairs_on ps k)

module _ (s : Settings) (t : List ℕ) where
  pub record Sheet : Type 0 where
    pub whole : Whole (records s t)
    -- record n, as the call record answers it, is the nth of them
    pub order : (n : ℕ) → record_call s t n ≡ nth_record (records s t) n
    -- a row has 51 bytes
    pub row : (n : ℕ) → n < length (records s t) → length (pair_row (get_or (records s t) n (pair 0 0))) ≡ 51
    -- each page is answered: a line of 51 bytes for the heading and for each of its records, and the bytes behind them stay
    pub page : (k : ℕ) (out : List ℕ) → 1 ≤ k → k ≤ page_count (length (records s t)) → page_room ≤ length out
        → let n = 51 * suc (length (pairs_on (records s t) k)) in
        page_call s t k out ≡ reply (Ok n) (page_text (records s t) k ++ drop n out)
