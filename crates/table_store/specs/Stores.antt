-- What the stores leave in a table's bytes: each is a field put at its place; and a row of them, a state stored.
use Rattle.std.specs.Prelude.{ℕ, ◌+◌, ◌*◌, ◌^◌, ◌<◌, ◌≡◌, List}
use Rattle.bits.specs.Field.{field}
use Rattle.bits.specs.Put.{put_field}
use Rattle.settings.specs.declared.layout.Layout.{Layout}
use Rattle.table.specs.Decode.{block_at, basic_slots, link_at, owner_at, decode}
use Rattle.table.specs.State.{State}
use Rattle.table.specs.Table.{Table, Only}

-- an entry and a label that a slot holds
pub record Slotted (g : Layout) (e label : ℕ) : Type 0 where
  pub entry_fits : e < 2 ^ g.bie
  pub label_fits : label < 2 ^ g.val

module _ (g : Layout) (t : List ℕ) where
  unfoldable pub free_put : ℕ → List ℕ
  free_put f = put_field t 0 g.basic.start f

  unfoldable pub basic_counter_put : ℕ → ℕ → List ℕ
  basic_counter_put i n = put_field t (block_at g.basic i) g.basic.counter n

  unfoldable pub head_put : ℕ → ℕ → List ℕ
  head_put i h = put_field t (basic_slots g i) g.link h

  unfoldable pub overflow_counter_put : ℕ → ℕ → List ℕ
  overflow_counter_put j n = put_field t (block_at g.overflow j) g.overflow.counter n

  unfoldable pub link_put : ℕ → ℕ → List ℕ
  link_put j l = put_field t (link_at g j) g.link l

  unfoldable pub owner_put : ℕ → ℕ → List ℕ
  owner_put j i = put_field t (owner_at g j) g.owner i

  -- the slot x at bit `at`
  unfoldable pub slot_put : ℕ → ℕ → List ℕ
  slot_put at x = put_field t at g.slot x

  -- overflow block j zeroed, but for its link and its owner
  unfoldable pub emptied : ℕ → ℕ → ℕ → List ℕ
  emptied j l i = put_field (put_field t (block_at g.overflow j) g.overflow.bits 0) (link_at g j) (g.link + g.owner) (l * 2 ^ g.owner + i)

-- u is t with the n bits of x stored at bit `at`, where the m bits from `base` on count as h; these bits themselves stay, and r is what they would be
pub record StoredOver (m n : ℕ) (t u : List ℕ) (base h at x r : ℕ) : Type 0 where
  pub head : r ≡ field (put_field (put_field t base m h) at n x) base m
  pub bytes : u ≡ put_field (put_field (put_field t base m h) at n x) base m (field t base m)

-- u is the table t with the state st in it, and nothing else changed
pub record Stored (g : Layout) (t u : List ℕ) (st : State) : Type 0 where
  pub table : Table g u
  pub only : Only t u 0 g.bits
  pub state : decode g u ≡ st
