-- Clause 4.13: a new table.
use Rattle.std.specs.Prelude.{ℕ, suc, cond, List, eqb}
use Rattle.settings.specs.declared.layout.Layout.{Layout}
use Rattle.table.specs.Arrays.{tabulate, cleared}
use Rattle.table.specs.State.{Overflow, State, mk_state, empty_block, empty_basic}
use Rattle.table.specs.Decode.{written}

module _ (g : Layout) where
  -- clauses 4.11 and 4.12: the last free block links to itself; all else is zero
  abbrev pub new_overflow : ℕ → Overflow
  new_overflow j = empty_block g (cond (eqb (suc j) g.nob) j (suc j)) 0

  unfoldable pub new_state : State
  new_state = mk_state 0 (tabulate g.lists (λ i. empty_basic)) (tabulate g.nob new_overflow)

  -- the new table in the lent bytes t: the fill is zero (clause 4.7), bytes behind the size stay (clause 6.13)
  unfoldable pub new_bytes : List ℕ → List ℕ
  new_bytes t = written g (cleared g.bytes t) new_state
