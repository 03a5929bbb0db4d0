-- What the functions below relabel are asked and leave. Only their contracts cite these; the call's own does not.
use Rattle.std.specs.Prelude.{ℕ, ◌^◌, ◌<◌, List, get_or}
use Rattle.std.proofs.Math.Option.{Option, none, some}
use Rattle.settings.specs.declared.layout.Layout.{Layout}
use Rattle.table.specs.State.{State, entry_of, slot_of}
use Rattle.table.specs.Decode.{decode}
use Rattle.table.specs.Table.{Table}
use Rattle.table.specs.Follow.{Content, content}
use Rattle.table.specs.Store.{store_at}
use Rattle.table_store.specs.Stores.{Stored}
use Rattle.table_store.specs.Places.{Placed}

-- list i of the table t has a place p, and the label fits in it
pub record Relabellable (g : Layout) (t : List ℕ) (i p label : ℕ) : Type 0 where
  pub table : Table g t
  pub list : i < g.lists
  pub placed : Placed g (decode g t) i p
  pub fits : label < 2 ^ g.val

module _ (g : Layout) where
  abbrev pub relabelled_in : State → ℕ → ℕ → ℕ → Option Content → State
  relabelled_in st i p label none = st
  relabelled_in st i p label (some v) = store_at g st i v.blocks p (slot_of g (entry_of g (get_or v.slots p 0)) label)

  -- another label in place p of list i; the entry there stays
  unfoldable pub relabelled : State → ℕ → ℕ → ℕ → State
  relabelled st i p label = relabelled_in st i p label (content g st i)

-- u is the table t with another label in place p of list i
abbrev pub Relabelled : Layout → List ℕ → List ℕ → ℕ → ℕ → ℕ → Type 0
Relabelled g t u i p label = Stored g t u (relabelled g (decode g t) i p label)
