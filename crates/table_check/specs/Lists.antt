-- The lists one by one, and the free chain, with the marks m before them: the marks afterwards, or none where the table is not sound.
use Rattle.std.specs.Prelude.{ℕ, zero, suc, Bool, false, cond, ◌&&◌, List, [], ◌++◌, take, eqb, ltb}
use Rattle.std.proofs.Math.Option.{Option, none, some}
use Rattle.laws.specs.Folds.{every_below}
use Rattle.bits.specs.Field.{field}
use Rattle.settings.specs.declared.layout.Layout.{Layout}
use Rattle.table.specs.State.{Basic, Overflow, State, basic_at, overflow_at, unpack, own_slots}
use Rattle.table.specs.Check.{basic_unused, no_entry_twice}
use Rattle.table_read.specs.Steps.{last_from}
use Rattle.table_check.specs.Walk.{found, list_step, chain_step, walk}
use Rattle.table_check.specs.Entries.{slots_from}

-- the marks, if there are any and the test passes
abbrev pub provided : Bool → Option (List ℕ) → Option (List ℕ)
provided q none = none
provided q (some m) = found q m

abbrev pub and_then : Option (List ℕ) → (List ℕ → Option (List ℕ)) → Option (List ℕ)
and_then none f = none
and_then (some m) f = f m

module _ (g : Layout) where
  -- a list without overflow blocks
  unfoldable pub short_sound : Basic → Bool
  short_sound b = basic_unused g b [] && no_entry_twice g (take b.counter (own_slots g b))

  -- no entry twice in a list that overflows, whose last block is l
  abbrev pub long_from : List Overflow → Basic → ℕ → Bool
  long_from os b l =
      cond (ltb l g.nob) (no_entry_twice g (unpack g (overflow_at os l).link b.rest ++ slots_from g g.nob os b.head)) false

  unfoldable pub long_apart : List Overflow → ℕ → Basic → Bool
  long_apart os i b = long_from os b (last_from g i g.nob os b.head)

  -- list i, whose basic block is b
  unfoldable pub list_walk : List Overflow → ℕ → Basic → List ℕ → Option (List ℕ)
  list_walk os i b m =
      cond (ltb b.counter (suc g.sib))
      (found (short_sound b) m)
      (cond (eqb b.counter (suc g.sib)) (provided (long_apart os i b) (walk g (list_step g os i) g.nob b.head m)) none)

  -- the first n lists
  unfoldable pub lists_walk : State → ℕ → List ℕ → Option (List ℕ)
  lists_walk st zero m = some m
  lists_walk st (suc n) m = and_then (lists_walk st n m) (list_walk st.overflow n (basic_at st.basic n))

  unfoldable pub chain_walk : State → List ℕ → Option (List ℕ)
  chain_walk st m = cond (eqb st.free g.nob) (some m) (walk g (chain_step g st.overflow) g.nob st.free m)

  -- every overflow block exactly once: every block has a mark
  abbrev pub all_marked : Option (List ℕ) → Bool
  all_marked none = false
  all_marked (some m) = every_below g.nob (λ j. eqb (field m j 1) 1)

  unfoldable pub sound_walk : State → List ℕ → Bool
  sound_walk st m = all_marked (and_then (lists_walk st g.lists m) (chain_walk st))
