-- Laws of lengths: the entries of overflow blocks from one on, and those of a list.
use mathlib.Core.Path.{◌≡◌, refl, sym, ap, ◌∙◌}
use mathlib.Core.List.{List, [], ◌∷◌, ◌++◌}
use mathlib.Core.Option.{Option, none, some}
use Prim.Native.Nat.{ℕ, suc, ◌+◌, ◌*◌, ◌^◌, ◌≤◌, ◌<◌, min}
use native.Mathlib.Omega.{arith}
use native.Mathlib.Nat.{zero-add}
use native.Mathlib.Decide.{dec_le}
use lib.ListN.{length, take, length-append, length-take}
use lib.Seq.{length-take-le}
use borrow.Author.Tests.{eq-eqb, ne_eqb}
use Rattle.std.specs.Prelude.{Ok, Err}
use Rattle.std.specs.declared.result.Result.{Result}
use Rattle.laws.specs.Folds.{every}
use Rattle.laws.specs.Cases.{cases}
use Rattle.settings.specs.declared.layout.Layout.{Layout}
use Rattle.table.specs.State.{Basic, Overflow, State, basic_at, overflow_at, unpack, own_slots}
use Rattle.table.specs.Decode.{decode}
use Rattle.table.specs.Table.{Table}
use Rattle.table.specs.Follow.{gather, follow, cons?, is_own, own_blocks, last_of, content_over, content}
use Rattle.table.specs.declared.damage.Damage.{Damage}
use Rattle.table_read.specs.theory.Reads.{sized, unpack_length}
use Rattle.table_read.specs.theory.Walks.{Chain, ends, more, Walk, lost, ended, walk, own_walk, follow_high, follow_here, follow_bad, follow_on, content_short, content_high, content_over_lem}
use Rattle.table_cursor.specs.Survey.{blocks_length, list_length}

-- a length, or damage
abbrev pub Length : Type 0
Length = Result ℕ Damage

abbrev pub broken : Length
broken = Err (record {})

-- n entries, and those that follow
abbrev pub plus : ℕ → Length → Length
plus n (Ok k) = Ok (n + k)
plus n (Err e) = Err e

pub plus_none : (r : Length) → plus 0 r ≡ r
plus_none (Ok k) = ap Ok (zero-add k)
plus_none (Err e) = refl

-- a length is no damage
pub not_damage : {X : Type 0} {e : Damage} {k : ℕ} → ◌≡◌ {A = Length} (Err e) (Ok k) → X
not_damage q = let z : ◌≡◌ {A = ℕ} 0 1 = cc in absurd (omega arith)

pub entries_are : {j k : ℕ} → ◌≡◌ {A = Length} (Ok j) (Ok k) → j ≡ k
entries_are e = cc

module _ (g : Layout) (t : List ℕ) (T : Table g t) where
  abbrev st : State
  st = decode g t

  abbrev os : List Overflow
  os = st.overflow

  -- ---- overflow blocks

  -- the slots in use of block b, and ys
  block_length : (b : ℕ) (ys : List ℕ) → b < g.nob
      → length (take (suc (overflow_at os b).counter) (overflow_at os b).slots ++ ys) ≡ min (suc (overflow_at os b).counter) g.sio + length ys
  block_length b ys h =
      let o = overflow_at os b in
      omega (arith, sized g t T b h, length-append (take (suc o.counter) o.slots) ys, length-take (suc o.counter) o.slots)

  module _ (i : ℕ) where
    -- those of list i from block b on, where at most n blocks are followed
    abbrev length_from : ℕ → ℕ → Length
    length_from n b = blocks_length g os (own_blocks i os (follow g n os b))

    pub length_high : (n b m : ℕ) → g.nob ≤ b → broken ≡ plus m (length_from n b)
    length_high n b m h = rw (follow_high g os n b h)

    pub length_bad : (n b m : ℕ) → g.sio < (overflow_at os b).counter → broken ≡ plus m (length_from n b)
    length_bad n b m h = rw (follow_bad g os n b h)

    -- a block with another list's number
    other_as : {n b : ℕ} {o : Option (List ℕ)} (m : ℕ) → ((overflow_at os b).owner ≡ i → ⊥) → Walk g os n b o → broken ≡ plus m (blocks_length g os (own_blocks i os o))
    other_as m ne lost = refl
    other_as {b = b} m ne (ended c l) = rw (ne_eqb (overflow_at os b).owner i ne)

    pub length_other : (n b m : ℕ) → ((overflow_at os b).owner ≡ i → ⊥) → broken ≡ plus m (length_from n b)
    length_other n b m ne = other_as m ne (walk g os n b)

    pub length_here : (n b m c x : ℕ) → 0 < n → b < g.nob → (overflow_at os b).owner ≡ i → c ≡ (overflow_at os b).counter → c < g.sio → x ≡ m + c + 1
        → Ok x ≡ plus m (length_from n b)
    length_here n b m c x z h o e l q =
        let w : x ≡ m + length (gather g os (b ∷ [])) = omega (arith, block_length b [] h) in
        rw (follow_here g os n b z h (omega arith), eq-eqb (overflow_at os b).owner i o) (ap Ok w)

    length_next : (b m : ℕ) → b < g.nob → (overflow_at os b).owner ≡ i → (overflow_at os b).counter ≡ g.sio → (o : Option (List ℕ))
        → plus (m + g.sio) (blocks_length g os (own_blocks i os o)) ≡ plus m (blocks_length g os (own_blocks i os (cons? b o)))
    length_next b m h o e none = refl
    length_next b m h o e (some bs) =
        let own = eq-eqb (overflow_at os b).owner i o in
        let w : m + g.sio + length (gather g os bs) ≡ m + length (gather g os (b ∷ bs)) = omega (arith, block_length b (gather g os bs) h) in
        cases (every (is_own i os) bs) (λ q. rw (own, q) (ap Ok w)) (λ q. rw (own, q))

    pub length_on : (n k b m x : ℕ) → n ≡ suc k → b < g.nob → (overflow_at os b).owner ≡ i → (overflow_at os b).counter ≡ g.sio → x ≡ (overflow_at os b).link
        → plus (m + g.sio) (length_from k x) ≡ plus m (length_from n b)
    length_on n k b m x z h o e l = rw (l, follow_on g os n k b z h e) (length_next b m h o e (follow g k os (overflow_at os b).link))

  -- ---- they are few, since a block has at most 15 slots

  chain_few : {b : ℕ} {cs : List ℕ} → Chain g os b cs → length (gather g os (b ∷ cs)) ≤ suc (length cs) * 15
  chain_few (ends {b} h l) = omega (arith, T.proper.sio_high, block_length b [] h)
  chain_few (more {b} {cs} h e c) =
      omega (arith, T.proper.sio_high, block_length b (gather g os ((overflow_at os b).link ∷ cs)) h, chain_few c)

  walk_few : {n b k : ℕ} {o : Option (List ℕ)} → Walk g os n b o → blocks_length g os o ≡ Ok k → k ≤ n * 15
  walk_few lost e = not_damage e
  walk_few (ended c l) e = omega (arith, chain_few c, entries_are e)

  pub blocks_few : (i n b k : ℕ) (r : Length) → r ≡ length_from i n b → r ≡ Ok k → k ≤ n * 15
  blocks_few i n b k r e q = walk_few (own_walk g os i n b) (sym e ∙ q)

  -- ---- a list, by its basic block's counter

  pub list_short : (i c : ℕ) → c ≡ (basic_at st.basic i).counter → c ≤ g.sib → Ok c ≡ list_length (content g st i)
  list_short i c e h =
      let b = basic_at st.basic i in
      let l = length-take-le b.counter (own_slots g b) (omega (arith, unpack_length g b.head b.rest)) in
      ap Ok (e ∙ sym l) ∙ ap list_length (sym (content_short g st i (omega arith)))

  pub list_high : (i c : ℕ) → c ≡ (basic_at st.basic i).counter → g.sib + 1 < c → broken ≡ list_length (content g st i)
  list_high i c e h = ap list_length (sym (content_high g st i (omega arith)))

  over_length : (x : Basic) {n b : ℕ} {o : Option (List ℕ)} → Walk g os n b o → list_length (content_over g x os o) ≡ plus g.sib (blocks_length g os o)
  over_length x lost = refl
  over_length x {b = b} (ended {cs} c l) =
      let h = (overflow_at os (last_of b cs)).link in
      ap Ok (omega (arith, length-append (unpack g h x.rest) (gather g os (b ∷ cs)), unpack_length g h x.rest))

  pub list_long : (i c h : ℕ) (r : Length) → c ≡ (basic_at st.basic i).counter → c ≡ g.sib + 1 → h ≡ (basic_at st.basic i).head → r ≡ length_from i g.nob h
      → plus g.sib r ≡ list_length (content g st i)
  list_long i c h r e z eh er =
      ap (plus g.sib) (er ∙ ap (length_from i g.nob) eh)
      ∙ sym (over_length (basic_at st.basic i) (own_walk g os i g.nob (basic_at st.basic i).head))
      ∙ sym (ap list_length (content_over_lem g st i (omega arith)))

  -- ---- its entries are few

  plus_few : (n m : ℕ) {k : ℕ} (r : Length) → ((j : ℕ) → r ≡ Ok j → j ≤ m) → plus n r ≡ Ok k → k ≤ n + m
  plus_few n m (Ok j) f e = omega (arith, f j refl, entries_are e)
  plus_few n m (Err d) f e = not_damage e

  module _ (i k : ℕ) (is : list_length (content g st i) ≡ Ok k) where
    abbrev b : Basic
    b = basic_at st.basic i

    few_by : Dec (b.counter ≤ g.sib) → Dec (b.counter ≤ g.sib + 1) → k ≤ 2 ^ 20
    few_by (yes h) m = omega (arith, T.proper.sib_high, entries_are (list_short i b.counter refl h ∙ is))
    few_by (no h) (yes l) =
        let r = length_from i g.nob b.head in
        let e = list_long i b.counter b.head r refl (omega arith) refl refl ∙ is in
        let f = plus_few g.sib (g.nob * 15) r (λ j q. blocks_few i g.nob b.head j r refl q) e in
        omega (arith, T.proper.sib_high, T.proper.nob_high)
    few_by (no h) (no l) = not_damage (list_high i b.counter refl (omega arith) ∙ is)

    pub list_few : k ≤ 2 ^ 20
    list_few = few_by (dec_le b.counter g.sib) (dec_le b.counter (g.sib + 1))
