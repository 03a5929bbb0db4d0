-- Section 4 of docs/SPECIFICATION.md: where each field stands, the state that the bits hold, and the bytes with a state in them.
use Rattle.std.specs.Prelude.{ℕ, ◌+◌, ◌*◌, ◌^◌, List, map}
use Rattle.bits.specs.Field.{field}
use Rattle.bits.specs.Put.{put_field}
use Rattle.settings.specs.declared.layout.Blocks.{Blocks}
use Rattle.settings.specs.declared.layout.Layout.{Layout}
use Rattle.table.specs.Arrays.{tabulate, packed}
use Rattle.table.specs.State.{Basic, Overflow, State, mk_basic, mk_overflow, mk_state, rest_bits}

-- block i of its kind
unfoldable pub block_at : Blocks → ℕ → ℕ
block_at b i = b.start + i * b.bits

module _ (g : Layout) where
  -- clause 4.4: a counter, then sib slots
  unfoldable pub basic_slots : ℕ → ℕ
  basic_slots i = block_at g.basic i + g.basic.counter

  -- clause 4.5: a counter, a link, the owner's number, then sio slots
  unfoldable pub link_at : ℕ → ℕ
  link_at j = block_at g.overflow j + g.overflow.counter

  unfoldable pub owner_at : ℕ → ℕ
  owner_at j = block_at g.overflow j + (g.overflow.counter + g.link)

  unfoldable pub overflow_slots : ℕ → ℕ
  overflow_slots j = block_at g.overflow j + (g.overflow.counter + (g.link + g.owner))

  unfoldable pub read_basic : List ℕ → ℕ → Basic
  read_basic t i =
      mk_basic (field t (block_at g.basic i) g.basic.counter) (field t (basic_slots i) g.link)
      (field t (basic_slots i + g.link) (rest_bits g))

  unfoldable pub read_overflow : List ℕ → ℕ → Overflow
  read_overflow t j =
      mk_overflow (field t (block_at g.overflow j) g.overflow.counter) (field t (link_at j) g.link)
      (field t (owner_at j) g.owner) (tabulate g.sio (λ k. field t (overflow_slots j + k * g.slot) g.slot))

  -- clause 4.2: free start, basic blocks, overflow blocks
  unfoldable pub decode : List ℕ → State
  decode t = mk_state (field t 0 g.basic.start) (tabulate g.lists (read_basic t)) (tabulate g.nob (read_overflow t))

  abbrev pub pack_basic : Basic → ℕ
  pack_basic b = (b.counter * 2 ^ g.link + b.head) * 2 ^ rest_bits g + b.rest

  abbrev pub pack_overflow : Overflow → ℕ
  pack_overflow o =
      ((o.counter * 2 ^ g.link + o.link) * 2 ^ g.owner + o.owner) * 2 ^ (g.sio * g.slot) + packed g.slot o.slots

  -- all the table's fields as one number, in the same order
  unfoldable pub image : State → ℕ
  image st =
      (st.free * 2 ^ (g.lists * g.basic.bits) + packed g.basic.bits (map pack_basic st.basic)) * 2 ^ (g.nob * g.overflow.bits)
      + packed g.overflow.bits (map pack_overflow st.overflow)

  -- the bytes t with the state st in the table's bits; all other bits stay
  unfoldable pub written : List ℕ → State → List ℕ
  written t st = put_field t 0 g.bits (image st)
