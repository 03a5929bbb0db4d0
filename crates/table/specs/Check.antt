-- Clause 6.10: check, as a test that can be computed. `Sound` says the same in the clause's words, and theory proves it.
use Rattle.std.specs.Prelude.{ℕ, zero, suc, ◌+◌, ◌-◌, ◌*◌, ◌/◌, Bool, true, false, cond, ◌&&◌, List, [], ◌∷◌, drop, eqb, ltb}
use Rattle.std.proofs.Math.Option.{Option, none, some}
use Rattle.laws.specs.Folds.{every, every_below, all_zero, sum_below}
use Rattle.bits.specs.Field.{field}
use Rattle.settings.specs.declared.layout.Layout.{Layout}
use Rattle.table.specs.Arrays.{cleared}
use Rattle.table.specs.State.{Basic, Overflow, State, basic_at, overflow_at, own_slots, entry_of}
use Rattle.table.specs.Decode.{decode}
use Rattle.table.specs.Follow.{Content, cons?, content}
use Rattle.table.specs.Take.{occurs}

-- the overflow blocks of a list that was followed
abbrev pub blocks_of : Option Content → List ℕ
blocks_of none = []
blocks_of (some v) = v.blocks

module _ (g : Layout) where
  -- clause 4.12: slots that are not in use are zero
  abbrev pub basic_unused : Basic → List ℕ → Bool
  basic_unused b [] = all_zero (drop b.counter (own_slots g b))
  basic_unused b (c ∷ cs) = true

  abbrev pub overflow_unused : List Overflow → ℕ → Bool
  overflow_unused os j = all_zero (drop (suc (overflow_at os j).counter) (overflow_at os j).slots)

  -- clause 4.12: counters, owners and slots of free blocks are zero
  abbrev pub free_zero : List Overflow → ℕ → Bool
  free_zero os f = eqb (overflow_at os f).counter 0 && (eqb (overflow_at os f).owner 0 && all_zero (overflow_at os f).slots)

  -- no entry stands twice in a list
  abbrev pub has_entry : ℕ → List ℕ → Bool
  has_entry e [] = false
  has_entry e (y ∷ ys) = cond (eqb (entry_of g y) e) true (has_entry e ys)

  abbrev pub no_entry_twice : List ℕ → Bool
  no_entry_twice [] = true
  no_entry_twice (x ∷ xs) = cond (has_entry (entry_of g x) xs) false (no_entry_twice xs)

  -- a list without damage, and its zeros and entries as they should be
  abbrev pub list_sound : Basic → List Overflow → Option Content → Bool
  list_sound b os none = false
  list_sound b os (some v) = basic_unused b v.blocks && (every (overflow_unused os) v.blocks && no_entry_twice v.slots)

  abbrev pub lists_sound : State → Bool
  lists_sound st = every_below g.lists (λ i. list_sound (basic_at st.basic i) st.overflow (content g st i))

  -- the free chain from block f on, to the block that links to itself
  abbrev pub chain_from : ℕ → List Overflow → ℕ → Option (List ℕ)
  chain_from zero os f = none
  chain_from (suc n) os f =
      let on = cons? f (chain_from n os (overflow_at os f).link) in
      cond (ltb f g.nob) (cond (eqb (overflow_at os f).link f) (some (f ∷ [])) on) none

  abbrev pub free_chain : State → Option (List ℕ)
  free_chain st =
      let on = chain_from g.nob st.overflow st.free in
      cond (eqb st.free g.nob) (some []) on

  -- how often block j stands in the lists
  abbrev pub occurs_in_lists : ℕ → State → ℕ
  occurs_in_lists j st = sum_below g.lists (λ i. occurs j (blocks_of (content g st i)))

  -- every overflow block stands exactly once, in one list or in the free chain
  abbrev pub chain_sound : State → Option (List ℕ) → Bool
  chain_sound st none = false
  chain_sound st (some fs) =
      every (free_zero st.overflow) fs
      && every_below g.nob (λ j. eqb (occurs_in_lists j st + occurs j fs) 1)

  unfoldable pub state_sound : State → Bool
  state_sound st = lists_sound st && chain_sound st (free_chain st)

  -- clause 4.7: the fill is zero
  unfoldable pub fill_zero : List ℕ → Bool
  fill_zero t = eqb (field t g.bits (8 * g.bytes - g.bits)) 0

  unfoldable pub table_sound : List ℕ → Bool
  table_sound t = state_sound (decode g t) && fill_zero t

  -- clause 6.11: the marks are zero, and the bytes behind them stay
  unfoldable pub mark_bytes : ℕ
  mark_bytes = (g.nob + 7) / 8

  unfoldable pub marks_after : List ℕ → List ℕ
  marks_after m = cleared mark_bytes m
