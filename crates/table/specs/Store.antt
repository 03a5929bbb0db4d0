-- A slot stored in a place of a list.
use Rattle.std.specs.Prelude.{ℕ, ◌-◌, cond, List, [], ◌∷◌, set, ltb}
use Rattle.settings.specs.declared.layout.Layout.{Layout}
use Rattle.table.specs.State.{Basic, Overflow, State, mk_state, basic_at, overflow_at, unpack, head_of, rest_of, own_slots, basic_of}
use Rattle.table.specs.Updates.{with_link, with_slot, with_rest, over_basic, over_overflow}
use Rattle.table.specs.Follow.{last_of}

module _ (g : Layout) where
  -- the number x in slot p of a basic block whose slots are its own
  abbrev pub slot_in : ℕ → ℕ → Basic → Basic
  slot_in p x b = basic_of g b.counter (set (own_slots g b) p x)

  -- x in slot p of basic block i, whose list ends in block l: displaced bits go to its link (clause 4.9)
  abbrev pub store_displaced : ℕ → ℕ → ℕ → ℕ → State → State
  store_displaced i l p x st =
      let es = set (unpack g (overflow_at st.overflow l).link (basic_at st.basic i).rest) p x in
      over_overflow l (with_link (head_of g es)) (over_basic i (with_rest (rest_of g es)) st)

  -- x in place q of the overflow blocks bs, counted through them
  unfoldable pub store_overflow : List Overflow → List ℕ → ℕ → ℕ → List Overflow
  store_overflow os [] q x = os
  store_overflow os (b ∷ bs) q x =
      cond (ltb q g.sio) (set os b (with_slot q x (overflow_at os b))) (store_overflow os bs (q - g.sio) x)

  -- x in place p of list i, whose overflow blocks are bs
  unfoldable pub store_at : State → ℕ → List ℕ → ℕ → ℕ → State
  store_at st i [] p x = over_basic i (slot_in p x) st
  store_at st i (c ∷ cs) p x =
      cond (ltb p g.sib) (store_displaced i (last_of c cs) p x st)
      (mk_state st.free st.basic (store_overflow st.overflow (c ∷ cs) (p - g.sib) x))
