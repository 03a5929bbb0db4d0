-- Clauses 5.3 and 5.4: taking a block from the free chain, and giving one back.
use Rattle.std.specs.Prelude.{ℕ, cond, List, eqb, ltb}
use Rattle.laws.specs.Folds.{count}
use Rattle.settings.specs.declared.layout.Layout.{Layout}
use Rattle.table.specs.State.{Overflow, State, overflow_at, empty_block}
use Rattle.table.specs.Updates.{with_slot, with_free, over_overflow}
use Rattle.table.specs.Done.{Done, damage, no_block}

-- how often j stands in a list of block numbers
abbrev pub occurs : ℕ → List ℕ → ℕ
occurs j bs = count (eqb j) bs

module _ (g : Layout) where
  -- the free start once block f is taken: its link, or nob if it links to itself
  abbrev pub next_free : List Overflow → ℕ → ℕ
  next_free os f = cond (eqb (overflow_at os f).link f) g.nob (overflow_at os f).link

  -- take the first free block for a list of blocks bs, and go on with it (clause 5.3)
  abbrev pub taking : State → List ℕ → Done → Done
  taking st bs on =
      cond (ltb g.nob st.free) damage
      (cond (eqb st.free g.nob) no_block
      (cond (ltb 0 (occurs st.free bs)) damage
      (cond (ltb (overflow_at st.overflow st.free).link g.nob) on damage)))

  -- block f taken, zeroed, as the last of list i: its one slot is x, its link the displaced bits d. The free start is `next` then
  abbrev pub taken : ℕ → ℕ → ℕ → ℕ → ℕ → State → State
  taken i f next d x st = with_free next (over_overflow f (λ o. with_slot 0 x (empty_block g d i)) st)

  -- the link of a block l that goes to the front of a free chain that starts at f
  abbrev pub link_free : ℕ → ℕ → ℕ
  link_free f l = cond (eqb f g.nob) l f

  -- clause 5.4: block l at the front of the free chain, zeroed
  abbrev pub freed : ℕ → State → State
  freed l st = with_free l (over_overflow l (λ o. empty_block g (link_free st.free l) 0) st)
