-- What the functions below delete are asked and answer. Only their contracts cite these; the call's own does not.
use Rattle.std.specs.Prelude.{ℕ, ◌<◌, ◌≡◌, Bool, false, cond, List, [], ◌∷◌}
use Rattle.std.proofs.Math.Option.{Option, none, some}
use Rattle.settings.specs.declared.layout.Layout.{Layout}
use Rattle.table.specs.State.{State, overflow_at}
use Rattle.table.specs.Decode.{decode}
use Rattle.table.specs.Follow.{Content, last_of, content}
use Rattle.table.specs.Delete.{prior_of, cannot_free, take_out}
use Rattle.table.specs.Done.{Done, damage, done}
use Rattle.table_delete.specs.declared.shrink.End.{End}
use Rattle.table_store.specs.Stores.{Stored}
use Rattle.table.specs.declared.step.Before.{Before}

-- block l, and what stands before it
abbrev pub end : ℕ → Before → End
end l p = record { last = record { 0 = l }; before = p }

module _ (g : Layout) where
  -- the last of the blocks, and what stands before it; p if there is no other
  abbrev pub end_in : Before → List ℕ → End
  end_in p [] = end g.nob p
  end_in p (c ∷ cs) = end (last_of c cs) (prior_of p c cs)

  -- the last block, l, would be freed, and cannot
  abbrev pub cannot_free_at : ℕ → State → Bool
  cannot_free_at l st = cannot_free g (overflow_at st.overflow l).counter st

  pub record Shrinkable (st : State) (l : ℕ) : Type 0 where
    pub low : l < g.nob
    pub few : (overflow_at st.overflow l).counter < g.sio
    pub free : cannot_free_at l st ≡ false

  abbrev pub removal_of : State → ℕ → ℕ → Option Content → Done
  removal_of st i p none = damage
  removal_of st i p (some v) = take_out g st i v p

  -- what the removal of place p from list i comes to
  unfoldable pub removal : State → ℕ → ℕ → Done
  removal st i p = removal_of st i p (content g st i)

-- u and r are what the removal of place p from list i of t comes to
pub record Removed (g : Layout) (t u : List ℕ) (i p : ℕ) (r : Bool) : Type 0 where
  pub state : State
  pub is : removal g (decode g t) i p ≡ cond r (done state) damage
  pub stored : Stored g t u (cond r state (decode g t))
