-- The number of a place in a list: it is below the capacity, and retrieve gives the slot that stands there. Blocks that join the list at its end
-- leave it as it is.
use Rattle.std.specs.Prelude.{◌≡◌, List, [], ◌∷◌, ◌++◌, ℕ, suc, ◌+◌, ◌-◌, ◌*◌, ◌/◌, ◌%◌, ◌≤◌, ◌<◌, length, get_or, drop, ltb}
use Rattle.std.proofs.Common.{sym, ap, ◌∙◌, mul-le-mul_left, mod-eq_of_lt, length-drop}
use native.Mathlib.Omega.{arith}
use Rattle.std.proofs.Math.Nat.{mul-add-div, mul-add-mod_self_left, div-eq_of_lt}
use borrow.Author.Tests.{eqb-true, lt-ltb, le-ltb, ltb-true, ltb-false}
use Rattle.laws.specs.Cases.{cases}
use Rattle.laws.specs.Sums.{occurs_head}
use Rattle.settings.specs.declared.settings.Settings.{Settings}
use Rattle.settings.specs.declared.layout.Layout.{Layout}
use Rattle.settings.specs.Layout.{layout_of}
use Rattle.table.specs.State.{Basic, Overflow, State, basic_at, overflow_at}
use Rattle.table.specs.Follow.{is_own}
use Rattle.table.specs.Take.{occurs}
use Rattle.table.specs.Numbers.{basic_number, basic_capacity, overflow_number, capacity, block_number, slot_number}
use Rattle.table.specs.Record.{record_of}
use Rattle.table.specs.Retrieve.{retrieve_basic, retrieve_overflow, retrieve_in}
use Rattle.table.specs.theory.Every.{every_at}
use Rattle.plain_set.specs.theory.Pad.{get_or_padded, get_or_drop_ge}
use Rattle.plain_set.specs.theory.Rep.{Tail, Holds, Rep}
use Rattle.plain_set.specs.theory.Follow.{holds_own}
use Rattle.plain_set.specs.theory.Update.{rep_standing}
use Rattle.plain_set.specs.theory.Change.{rep_content}

module _ (g : Layout) where
  -- Blocks at the list's end -----------------------------------------------------------------------------------------------

  block_front : (bs cs : List ℕ) (q : ℕ) → q < g.sio * length bs → block_number g (bs ++ cs) q ≡ block_number g bs q
  block_front [] cs q h = absurd (omega arith)
  block_front (b ∷ bs) cs q h =
      cases (ltb q g.sio) (λ e. rw e) (λ e. rw e (block_front bs cs (q - g.sio) (omega (arith, ltb-false q g.sio e))))

  -- a place in the blocks bs has the same number where others stand behind them
  pub number_front : (i : ℕ) (bs cs : List ℕ) (p : ℕ) → p < g.sib + g.sio * length bs
      → slot_number g i (bs ++ cs) p ≡ slot_number g i bs p
  unfolding slot_number
  number_front i bs cs p h =
      cases (ltb p g.sib) (λ e. rw e) (λ e. rw e (block_front bs cs (p - g.sib) (omega (arith, ltb-false p g.sib e))))

  -- A place in the overflow blocks -----------------------------------------------------------------------------------------

  -- place q of the overflow blocks bs is a slot of one of them, which is in use and holds x
  record Spot (os : List Overflow) (bs : List ℕ) (q x : ℕ) : Type 0 where
    block : ℕ
    slot : ℕ
    number : block_number g bs q ≡ overflow_number g block slot
    listed : 0 < occurs block bs
    low : slot < g.sio
    used : slot < suc (overflow_at os block).counter
    holds : get_or (overflow_at os block).slots slot 0 ≡ x

  -- where one block more stands before them
  behind : {os : List Overflow} {b : ℕ} {bs : List ℕ} {q x : ℕ} → g.sio ≤ q → Spot os bs (q - g.sio) x → Spot os (b ∷ bs) q x
  behind {q = q} m w =
      record {
        block = w.block;
        slot = w.slot;
        number = rw (le-ltb q g.sio m) w.number;
        listed = omega (arith, w.listed);
        low = w.low;
        used = w.used;
        holds = w.holds;
      }

  tail_spot : (i : ℕ) (os : List Overflow) (b : ℕ) (bs es : List ℕ) (d q : ℕ) → Tail g i os b bs es d → q < length es
      → Spot os (b ∷ bs) q (get_or es q 0)
  tail_spot i os b [] es d q h l =
      record {
        block = b;
        slot = q;
        number = rw (lt-ltb q g.sio (omega arith));
        listed = occurs_head b [];
        low = omega arith;
        used = omega (arith, ap (λ (o : Overflow). o.counter) h.2);
        holds = rw h.2 (get_or_padded g.sio es q (omega arith));
      }
  tail_spot i os b (c ∷ cs) es d q h l =
      cases (ltb q g.sio)
      (λ e.
      let m : q < g.sio = ltb-true q g.sio e in
      record {
        block = b;
        slot = q;
        number = rw e;
        listed = occurs_head b (c ∷ cs);
        low = m;
        used = omega (arith, ap (λ (o : Overflow). o.counter) h.1);
        holds = rw h.1 (get_or_padded g.sio es q m);
      })
      (λ e.
      let m : g.sio ≤ q = ltb-false q g.sio e in
      behind m
      (rw (sym (get_or_drop_ge g.sio es q 0 m))
      (tail_spot i os c cs (drop g.sio es) d (q - g.sio) h.2 (omega (arith, length-drop g.sio es)))))

  holds_spot : (i : ℕ) (b : Basic) (os : List Overflow) (bs es : List ℕ) (p : ℕ) → Holds g i b os bs es → g.sib ≤ p → p < length es
      → Spot os bs (p - g.sib) (get_or es p 0)
  holds_spot i b os [] es p h m l = absurd (omega arith)
  holds_spot i b os (c ∷ cs) es p h m l =
      rw (sym (get_or_drop_ge g.sib es p 0 m))
      (tail_spot i os c cs (drop g.sib es) h.0 (p - g.sib) h.5 (omega (arith, length-drop g.sib es)))

-- Retrieve ---------------------------------------------------------------------------------------------------------------------

-- a number of rows of k, and a place in the last
row_of : (k j r : ℕ) → r < k → (k * j + r) / k ≡ j
row_of k j r h = let z : r / k ≡ 0 = div-eq_of_lt h in mul-add-div (omega arith) j r ∙ (omega arith)

place_of : (k j r : ℕ) → r < k → (k * j + r) % k ≡ r
place_of k j r h = mul-add-mod_self_left k j r ∙ mod-eq_of_lt h

-- it is below m rows, if j is
row_below : (k j m r : ℕ) → r < k → j < m → k * j + r < k * m
row_below k j m r h l = omega (arith, mul-le-mul_left k l)

module _ (s : Settings) (st : State) where
  retrieve_low : (i p : ℕ) → i < (layout_of s).lists → p < (layout_of s).sib
      → retrieve_in s st (basic_number (layout_of s) i p) ≡ retrieve_basic s st i p
  unfolding retrieve_in
  retrieve_low i p h l =
      let sib = (layout_of s).sib in
      rw (lt-ltb (sib * i + p) (sib * (layout_of s).lists) (row_below sib i (layout_of s).lists p l h), row_of sib i p l, place_of sib i p l)

  retrieve_high : (j k : ℕ) → k < (layout_of s).sio → retrieve_in s st (overflow_number (layout_of s) j k) ≡ retrieve_overflow s st j k
  unfolding retrieve_in
  retrieve_high j k l =
      let sio = (layout_of s).sio in
      let n = basic_capacity (layout_of s) in
      let m : n + sio * j + k - n ≡ sio * j + k = omega arith in
      rw (le-ltb (n + sio * j + k) n (omega arith), m, row_of sio j k l, place_of sio j k l)

-- place p of list i
module _ (s : Settings) {st : State} {T B : List (List ℕ)} {fs : List ℕ} (r : Rep (layout_of s) st T B fs)
    (i : ℕ) (h : i < (layout_of s).lists) (p : ℕ) (l : p < length (get_or T i [])) where
  abbrev g : Layout
  g = layout_of s

  abbrev bs : List ℕ
  bs = get_or B i []

  abbrev es : List ℕ
  es = get_or T i []

  -- the place, if it is in an overflow block
  spot : g.sib ≤ p → Spot g st.overflow bs (p - g.sib) (get_or es p 0)
  spot m = holds_spot g i (basic_at st.basic i) st.overflow bs es p (r.each i h) m l

  retrieve_basic_lem : retrieve_basic s st i p ≡ record_of s i (get_or es p 0)
  unfolding retrieve_basic
  retrieve_basic_lem = rw (rep_content r i h, lt-ltb p (length es) l)

  retrieve_overflow_lem : {q : ℕ} (w : Spot g st.overflow bs q (get_or es p 0))
      → retrieve_overflow s st w.block w.slot ≡ record_of s i (get_or es p 0)
  unfolding retrieve_overflow
  retrieve_overflow_lem w =
      let o : Overflow = overflow_at st.overflow w.block in
      let own : o.owner ≡ i =
      eqb-true o.owner i
      (every_at (is_own i st.overflow) bs w.block (holds_own g i (basic_at st.basic i) st.overflow bs es (r.each i h)) w.listed) in
      rw (own, rep_content r i h, lt-ltb 0 (occurs w.block bs) w.listed, lt-ltb w.slot (suc o.counter) w.used, w.holds, own)

  -- its number is that of a slot
  pub number_below : slot_number g i bs p < capacity g
  unfolding slot_number capacity
  number_below =
      cases (ltb p g.sib)
      (λ e. rw e (omega (arith, row_below g.sib i g.lists p (ltb-true p g.sib e) h)))
      (λ e.
      let w = spot (ltb-false p g.sib e) in
      rw (e, w.number)
      (omega (arith, row_below g.sio w.block g.nob w.slot w.low ((rep_standing r h).low w.block (omega (arith, w.listed))))))

  -- and retrieve gives what stands there
  pub number_retrieves : retrieve_in s st (slot_number g i bs p) ≡ record_of s i (get_or es p 0)
  unfolding slot_number
  number_retrieves =
      cases (ltb p g.sib)
      (λ e. rw e (retrieve_low s st i p h (ltb-true p g.sib e) ∙ retrieve_basic_lem))
      (λ e.
      let w = spot (ltb-false p g.sib e) in
      rw (e, w.number) (retrieve_high s st w.block w.slot w.low ∙ retrieve_overflow_lem w))
