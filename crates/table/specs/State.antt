-- The table's fields, decoded.
use Rattle.std.specs.Prelude.{ℕ, ◌-◌, ◌*◌, ◌+◌, ◌/◌, ◌%◌, ◌^◌, List, [], get_or}
use Rattle.table.specs.Arrays.{packed, unpacked, padded}
use Rattle.settings.specs.declared.layout.Layout.{Layout}

-- A basic block's slots are kept as their first L bits, `head`, and the `rest`: clause 4.9 has the first block's number in
-- the first L bits of an overflowing block.
pub record Basic : Type 0 where
  pub counter : ℕ
  pub head : ℕ
  pub rest : ℕ

-- the owner is the number of the list that the block belongs to; 0 when it is free
pub record Overflow : Type 0 where
  pub counter : ℕ
  pub link : ℕ
  pub owner : ℕ
  pub slots : List ℕ

pub record State : Type 0 where
  pub free : ℕ
  pub basic : List Basic
  pub overflow : List Overflow

abbrev pub mk_basic : ℕ → ℕ → ℕ → Basic
mk_basic n h r = record { counter = n; head = h; rest = r }

abbrev pub mk_overflow : ℕ → ℕ → ℕ → List ℕ → Overflow
mk_overflow n l i es = record { counter = n; link = l; owner = i; slots = es }

abbrev pub mk_state : ℕ → List Basic → List Overflow → State
mk_state f bs os = record { free = f; basic = bs; overflow = os }

-- a basic block with no entries, which also stands for one whose number no block has
abbrev pub empty_basic : Basic
empty_basic = mk_basic 0 0 0

-- what stands for an overflow block whose number no block has
abbrev pub absent_block : Overflow
absent_block = mk_overflow 0 0 0 []

abbrev pub basic_at : List Basic → ℕ → Basic
basic_at bs i = get_or bs i empty_basic

abbrev pub overflow_at : List Overflow → ℕ → Overflow
overflow_at os j = get_or os j absent_block

module _ (g : Layout) where
  -- an overflow block that is zero but for its link and its owner: what a block is that was taken or freed (clauses 5.3, 5.4)
  abbrev pub empty_block : ℕ → ℕ → Overflow
  empty_block l i = mk_overflow 0 l i (padded g.sio [])

  -- the bits of a basic block's slots behind its first L
  abbrev pub rest_bits : ℕ
  rest_bits = g.sib * g.slot - g.link

  -- the slots of a basic block whose first L bits are h and whose others are r, and back
  unfoldable pub unpack : ℕ → ℕ → List ℕ
  unpack h r = unpacked g.slot g.sib (h * 2 ^ rest_bits + r)

  unfoldable pub head_of : List ℕ → ℕ
  head_of es = packed g.slot es / 2 ^ rest_bits

  unfoldable pub rest_of : List ℕ → ℕ
  rest_of es = packed g.slot es % 2 ^ rest_bits

  -- the slots of a basic block as they stand, and a block with the counter n whose slots, as they stand, are es
  abbrev pub own_slots : Basic → List ℕ
  own_slots b = unpack b.head b.rest

  abbrev pub basic_of : ℕ → List ℕ → Basic
  basic_of n es = mk_basic n (head_of es) (rest_of es)

  -- clause 4.6: a slot is an entry, and then its label
  abbrev pub entry_of : ℕ → ℕ
  entry_of x = x / 2 ^ g.val

  abbrev pub label_of : ℕ → ℕ
  label_of x = x % 2 ^ g.val

  abbrev pub slot_of : ℕ → ℕ → ℕ
  slot_of e label = e * 2 ^ g.val + label
