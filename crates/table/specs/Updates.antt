-- Changes of a state, one field or one block at a time: all else stays.
use Rattle.std.specs.Prelude.{ℕ, List, set}
use Rattle.table.specs.State.{Basic, Overflow, State, mk_basic, mk_overflow, mk_state, basic_at, overflow_at}

-- ---- an overflow block

abbrev pub with_counter : ℕ → Overflow → Overflow
with_counter n o = mk_overflow n o.link o.owner o.slots

abbrev pub with_link : ℕ → Overflow → Overflow
with_link l o = mk_overflow o.counter l o.owner o.slots

-- counter and link
abbrev pub with_front : ℕ → ℕ → Overflow → Overflow
with_front n l o = with_counter n (with_link l o)

abbrev pub with_slots : List ℕ → Overflow → Overflow
with_slots es o = mk_overflow o.counter o.link o.owner es

-- the number x in slot q
abbrev pub with_slot : ℕ → ℕ → Overflow → Overflow
with_slot q x o = with_slots (set o.slots q x) o

-- ---- a basic block

abbrev pub with_basic_counter : ℕ → Basic → Basic
with_basic_counter n b = mk_basic n b.head b.rest

abbrev pub with_head : ℕ → Basic → Basic
with_head h b = mk_basic b.counter h b.rest

-- counter and head
abbrev pub with_basic_front : ℕ → ℕ → Basic → Basic
with_basic_front n h b = with_basic_counter n (with_head h b)

abbrev pub with_rest : ℕ → Basic → Basic
with_rest r b = mk_basic b.counter b.head r

-- ---- a state

abbrev pub with_free : ℕ → State → State
with_free f st = mk_state f st.basic st.overflow

-- f done to basic block i, or to overflow block j
abbrev pub over_basic : ℕ → (Basic → Basic) → State → State
over_basic i f st = mk_state st.free (set st.basic i (f (basic_at st.basic i))) st.overflow

abbrev pub over_overflow : ℕ → (Overflow → Overflow) → State → State
over_overflow j f st = mk_state st.free st.basic (set st.overflow j (f (overflow_at st.overflow j)))
