-- Laws of a list's overflow blocks: where its places are, and its last one.
use Rattle.std.proofs.Math.Path.{◌≡◌}
use Rattle.std.specs.Prelude.{refl, true, false, List, [], ◌∷◌, ◌++◌, ℕ, suc, ◌+◌, ◌-◌, ◌≤◌, ◌<◌, min, length, take, ltb}
use Rattle.std.proofs.Common.{sym, ap, subst, ◌∙◌, zero-add, length-append, length-take}
use Rattle.laws.specs.Folds.{every}
use Rattle.std.proofs.Math.Option.{Option, none, some}
use native.Mathlib.Omega.{arith}
use Rattle.std.proofs.Math.Decide.{dec_le}
use borrow.Author.Tests.{eq-eqb, ne_eqb, lt-ltb, le-ltb}
use Rattle.settings.specs.declared.layout.Layout.{Layout}
use Rattle.table.specs.State.{Overflow, State, basic_at, overflow_at, unpack}
use Rattle.table.specs.Follow.{Content, mk_content, last_of, cons?, follow, gather, is_own, content}
use Rattle.table.specs.Take.{occurs}
use Rattle.table_read.specs.Steps.{last_from, Followed, OwnFollowed}
use Rattle.table.specs.Numbers.{overflow_number}
use Rattle.table_read.specs.BlockSlots.{blocks_from, number_from, has_block, block_slot, block_slot_in, Reaches}
use Rattle.table_read.specs.theory.Reads.{unpack_length}
use Rattle.table_read.specs.theory.Walks.{follow_here, follow_on, OneStep, Chain, ends, more, Walk, lost, ended, walk, owns, followed, ended_own, content_high, content_bad, content_over_lem}

module _ (g : Layout) (os : List Overflow) where
  -- the blocks of a list that has an end
  pub record Chained (b : ℕ) : Type 0 where
    pub others : List ℕ
    pub chain : Chain g os b others
    pub few : length others < g.nob
    pub found : follow g g.nob os b ≡ some (b ∷ others)
    pub are : blocks_from g os b ≡ b ∷ others

  chained_as : (b : ℕ) (bs : List ℕ) {o : Option (List ℕ)} → Walk g os g.nob b o → follow g g.nob os b ≡ o → o ≡ some bs → Chained b
  unfolding blocks_from
  chained_as b bs lost w e = absurd (let z : ◌≡◌ {A = ℕ} 0 1 = cc in omega arith)
  chained_as b bs (ended {cs} c l) w e = record { others = cs; chain = c; few = l; found = w; are = rw w }

  pub chained : (b : ℕ) → Followed g g.nob os b → Chained b
  chained b f = chained_as b f.blocks (walk g os g.nob b) refl f.are

  pub chain_low : {b : ℕ} {cs : List ℕ} → Chain g os b cs → b < g.nob
  chain_low (ends h l) = h
  chain_low (more h e c) = h

  pub last_few : {b : ℕ} {cs : List ℕ} → Chain g os b cs → (overflow_at os (last_of b cs)).counter < g.sio
  last_few (ends h l) = l
  last_few (more h e c) = last_few c

  -- ---- to a place

  pub record Going (first p b q : ℕ) : Type 0 where
    pub others : List ℕ
    pub chain : Chain g os b others
    pub within : q < length (gather g os (b ∷ others))
    pub same : block_slot_in g (b ∷ others) q ≡ block_slot_in g (blocks_from g os first) p

  pub going_first : (first p : ℕ) → Reaches g os first p → Going first p first p
  going_first first p r =
      let c = chained first r.ends in
      record {
        others = c.others;
        chain = c.chain;
        within = rw c.are at r.within;
        same = ap (λ (bs : List ℕ). block_slot_in g bs p) (sym c.are);
      }

  pub going_here : (first p b q : ℕ) → Going first p b q → q < g.sio → block_slot b q ≡ block_slot_in g (blocks_from g os first) p
  going_here first p b q m l = rw (lt-ltb q g.sio l) at m.same

  -- a decoded block has sio slots
  module _ (sized : (j : ℕ) → j < g.nob → length (overflow_at os j).slots ≡ g.sio) where
    one_block : {b : ℕ} (ys : List ℕ) → b < g.nob
        → length (take (suc (overflow_at os b).counter) (overflow_at os b).slots ++ ys) ≡ min (suc (overflow_at os b).counter) g.sio + length ys
    one_block {b} ys h =
        omega (
          arith,
          sized b h,
          length-append (take (suc (overflow_at os b).counter) (overflow_at os b).slots) ys,
          length-take (suc (overflow_at os b).counter) (overflow_at os b).slots,
        )

    pub one_more : {b q : ℕ} (ys : List ℕ) → b < g.nob → g.sio ≤ q → q < length (take (suc (overflow_at os b).counter) (overflow_at os b).slots ++ ys)
        → q - g.sio < length ys
    one_more {b} {q} ys h l m = omega (arith, one_block ys h)

    pub last_one : {b q : ℕ} → b < g.nob → q < length (take (suc (overflow_at os b).counter) (overflow_at os b).slots ++ []) → q < g.sio
    last_one {b} {q} h m = omega (arith, one_block [] h)

    going_on_as : (first p b q : ℕ) {cs : List ℕ} → g.sio ≤ q → Chain g os b cs → q < length (gather g os (b ∷ cs))
        → block_slot_in g (b ∷ cs) q ≡ block_slot_in g (blocks_from g os first) p → Going first p (overflow_at os b).link (q - g.sio)
    going_on_as first p b q l (ends h k) m e = absurd (let z = last_one h m in omega arith)
    going_on_as first p b q l (more {cs} h k c) m e =
        record {
          others = cs;
          chain = c;
          within = one_more (gather g os ((overflow_at os b).link ∷ cs)) h l m;
          same = rw (le-ltb q g.sio l) at e;
        }

    pub going_on : (first p b q : ℕ) → Going first p b q → g.sio ≤ q → Going first p (overflow_at os b).link (q - g.sio)
    going_on first p b q m l = going_on_as first p b q l m.chain m.within m.same

    -- the block is full, since the place is behind it
    full_as : {b q : ℕ} {cs : List ℕ} → g.sio ≤ q → Chain g os b cs → q < length (gather g os (b ∷ cs)) → (overflow_at os b).counter ≡ g.sio
    full_as l (ends h k) m = absurd (let z = last_one h m in omega arith)
    full_as l (more h k c) m = k

    pub going_full : (first p b q : ℕ) → Going first p b q → g.sio ≤ q → (overflow_at os b).counter ≡ g.sio
    going_full first p b q m l = full_as l m.chain m.within

    -- ---- the last place

    pub gather_some : {b : ℕ} {cs : List ℕ} → Chain g os b cs → 0 < length (gather g os (b ∷ cs))
    gather_some (ends h l) = omega (arith, one_block [] h)
    gather_some (more {b} {cs} h e c) = omega (arith, one_block (gather g os ((overflow_at os b).link ∷ cs)) h, gather_some c)

    -- it is in the last block, and is the slot that the counter there names
    pub last_block_slot : {b : ℕ} {cs : List ℕ} → Chain g os b cs
        → block_slot_in g (b ∷ cs) (length (gather g os (b ∷ cs)) - 1) ≡ block_slot (last_of b cs) (overflow_at os (last_of b cs)).counter
    last_block_slot (ends {b} h l) =
        let n = (overflow_at os b).counter in
        let e : length (gather g os (b ∷ [])) - 1 ≡ n = omega (arith, one_block [] h) in
        rw (e, lt-ltb n g.sio l)
    last_block_slot (more {b} {cs} h e c) =
        let ys = gather g os ((overflow_at os b).link ∷ cs) in
        let q = length (gather g os (b ∷ (overflow_at os b).link ∷ cs)) - 1 in
        let f = one_block ys h in
        let s = gather_some c in
        let k : q - g.sio ≡ length ys - 1 = omega arith in
        rw (le-ltb q g.sio (omega arith), k) (last_block_slot c)

-- ---- the blocks from b on, by one step

module _ (g : Layout) (os : List Overflow) (n b : ℕ) (k : OneStep g os n b) where
  blocks_last : (overflow_at os b).counter < g.sio → follow g n os b ≡ some (b ∷ [])
  blocks_last h = follow_here g os n b k.fuel k.low h

  blocks_on_lem : (e : (overflow_at os b).counter ≡ g.sio) → follow g n os b ≡ some (b ∷ (k.on e).blocks)
  blocks_on_lem e = follow_on g os n (n - 1) b (omega (arith, k.fuel)) k.low e ∙ ap (cons? b) (k.on e).are

  number_as : (bs : List ℕ) (j : ℕ) → follow g n os b ≡ some (b ∷ bs) → j < g.sio → number_from g n os b j ≡ overflow_number g b j
  unfolding number_from
  number_as bs j e h = rw (e, lt-ltb j g.sio h)

  -- the numbers of its slots, and of the places behind them
  pub number_here : (j : ℕ) → j < g.sio → number_from g n os b j ≡ overflow_number g b j
  number_here j h = pick (dec_le g.sio (overflow_at os b).counter)
    where
      pick : Dec (g.sio ≤ (overflow_at os b).counter) → number_from g n os b j ≡ overflow_number g b j
      pick (yes l) = let z : (overflow_at os b).counter ≡ g.sio = omega (arith, k.count) in number_as (k.on z).blocks j (blocks_on_lem z) h
      pick (no l) = number_as [] j (blocks_last (omega arith)) h

  pub number_on : (overflow_at os b).counter ≡ g.sio → (p : ℕ) → number_from g n os b (g.sio + p) ≡ number_from g (n - 1) os (overflow_at os b).link p
  unfolding number_from
  number_on e p =
      let z : g.sio + p - g.sio ≡ p = omega arith in
      rw (blocks_on_lem e, (k.on e).are, le-ltb (g.sio + p) g.sio (omega arith), z)

-- ---- whether block f is one of them

module _ (g : Layout) (os : List Overflow) (f : ℕ) where
  pub has_as : (n b : ℕ) (bs : List ℕ) → follow g n os b ≡ some bs → has_block g n os b f ≡ ltb 0 (occurs f bs)
  unfolding has_block
  has_as n b bs e = rw e

  module _ (n b : ℕ) (k : OneStep g os n b) where
    here : (bs : List ℕ) → b ≡ f → true ≡ ltb 0 (occurs f (b ∷ bs))
    here bs e = rw (eq-eqb f b (sym e)) (sym (lt-ltb 0 (1 + occurs f bs) (omega arith)))

    pub has_here : b ≡ f → true ≡ has_block g n os b f
    has_here e = pick (dec_le g.sio (overflow_at os b).counter)
      where
        pick : Dec (g.sio ≤ (overflow_at os b).counter) → true ≡ has_block g n os b f
        pick (yes l) = let z : (overflow_at os b).counter ≡ g.sio = omega (arith, k.count) in here (k.on z).blocks e ∙ sym (has_as n b (b ∷ (k.on z).blocks) (blocks_on_lem g os n b k z))
        pick (no l) = here [] e ∙ sym (has_as n b (b ∷ []) (blocks_last g os n b k (omega arith)))

    pub has_last : (b ≡ f → ⊥) → (overflow_at os b).counter < g.sio → false ≡ has_block g n os b f
    has_last ne h = sym (has_as n b (b ∷ []) (blocks_last g os n b k h) ∙ rw (ne_eqb f b (λ q. ne (sym q))))

    pub has_on : (b ≡ f → ⊥) → (overflow_at os b).counter ≡ g.sio → has_block g (n - 1) os (overflow_at os b).link f ≡ has_block g n os b f
    has_on ne e =
        has_as (n - 1) (overflow_at os b).link (k.on e).blocks (k.on e).are
        ∙ sym (has_as n b (b ∷ (k.on e).blocks) (blocks_on_lem g os n b k e) ∙ rw (ne_eqb f b (λ q. ne (sym q)), zero-add (occurs f (k.on e).blocks)))

-- ---- a list that overflows

module _ (g : Layout) (st : State) (i : ℕ) where
  pub content_chained : (basic_at st.basic i).counter ≡ suc g.sib → (c : Chained g st.overflow (basic_at st.basic i).head)
      → every (is_own i st.overflow) ((basic_at st.basic i).head ∷ c.others) ≡ true
      → content g st i
      ≡ some
      (mk_content ((basic_at st.basic i).head ∷ c.others)
      (unpack g (overflow_at st.overflow (last_of (basic_at st.basic i).head c.others)).link (basic_at st.basic i).rest
      ++ gather g st.overflow ((basic_at st.basic i).head ∷ c.others)))
  content_chained h c o = content_over_lem g st i h ∙ rw (c.found, o)

  -- what is known of it where its content is known
  module _ (v : Content) (is : content g st i ≡ some v) (h : g.sib < (basic_at st.basic i).counter) where
    not_damaged : {X : Type 0} → content g st i ≡ none → X
    not_damaged e = absurd (let z : ◌≡◌ {A = ℕ} 0 1 = cc in omega arith)

    pub long_full : (basic_at st.basic i).counter ≡ suc g.sib
    long_full = pick (dec_le (basic_at st.basic i).counter (suc g.sib))
      where
        pick : Dec ((basic_at st.basic i).counter ≤ suc g.sib) → (basic_at st.basic i).counter ≡ suc g.sib
        pick (yes l) = omega arith
        pick (no l) = not_damaged (content_high g st i (omega arith))

    pub long_owned : OwnFollowed g i g.nob st.overflow (basic_at st.basic i).head
    long_owned = pick (dec_le g.nob (last_from g i g.nob st.overflow (basic_at st.basic i).head))
      where
        pick : Dec (g.nob ≤ last_from g i g.nob st.overflow (basic_at st.basic i).head) → OwnFollowed g i g.nob st.overflow (basic_at st.basic i).head
        pick (yes l) = not_damaged (content_bad g st i long_full l)
        pick (no l) = followed g st.overflow i g.nob (basic_at st.basic i).head (omega arith)

    pub long_ends : Followed g g.nob st.overflow (basic_at st.basic i).head
    long_ends = ended_own g st.overflow i long_owned

    pub long_blocks : Chained g st.overflow (basic_at st.basic i).head
    long_blocks = chained g st.overflow (basic_at st.basic i).head long_ends

    pub long_own : every (is_own i st.overflow) ((basic_at st.basic i).head ∷ long_blocks.others) ≡ true
    long_own =
        let w = owns g st.overflow i long_owned in
        let e = long_blocks.found in
        let z : long_owned.blocks ≡ (basic_at st.basic i).head ∷ long_blocks.others = cc in
        subst (λ (bs : List ℕ). every (is_own i st.overflow) bs ≡ true) z w.own

    pub long_length : length v.slots ≡ g.sib + length (gather g st.overflow ((basic_at st.basic i).head ∷ long_blocks.others))
    long_length =
        let b = basic_at st.basic i in
        let last = overflow_at st.overflow (last_of b.head long_blocks.others) in
        let body = unpack g last.link b.rest in
        let tail = gather g st.overflow (b.head ∷ long_blocks.others) in
        let e = content_chained long_full long_blocks long_own in
        let z : v ≡ mk_content (b.head ∷ long_blocks.others) (body ++ tail) = cc in
        ap (λ (x : Content). length x.slots) z ∙ length-append body tail ∙ ap (λ (n : ℕ). n + length tail) (unpack_length g last.link b.rest)
