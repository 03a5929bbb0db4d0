-- Following a list of a sound table to its end gives its blocks and its slots.
use Rattle.std.specs.Prelude.{◌≡◌, refl, true, List, [], ◌∷◌, ◌++◌, ℕ, zero, suc, ◌+◌, ◌-◌, ◌*◌, ◌≤◌, ◌<◌, length, take, drop}
use Rattle.std.proofs.Common.{ap, ap₂, ◌∙◌, append-nil, arith, take-append-drop, length-drop, take_all, eq-eqb, lt-ltb, le-ltb}
use Rattle.std.proofs.Math.Option.{some}
use Rattle.laws.specs.Folds.{every}
use Rattle.laws.specs.Cases.{true_both}
use Rattle.laws.specs.Sums.{occurs_head}
use Rattle.settings.specs.declared.layout.Layout.{Layout}
use Rattle.table.specs.Arrays.{padded}
use Rattle.table.specs.State.{Basic, Overflow, overflow_at, unpack}
use Rattle.table.specs.Follow.{last_of, mk_content, is_own, follow, gather, content_of}
use Rattle.table.specs.Take.{occurs}
use Rattle.table.specs.theory.Ways.{step_last, step_further}
use Rattle.plain_set.specs.theory.Pad.{length_padded, take_padded, padded_take}
use Rattle.plain_set.specs.theory.Rep.{block_with, Tail, Holds}

module _ (g : Layout) (i : ℕ) where
  -- a list's length by its overflow blocks: all are full but the last, which is not empty
  pub tail_length : (os : List Overflow) (b : ℕ) (bs es : List ℕ) (d : ℕ) → Tail g i os b bs es d
      → (g.sio * length bs < length es) × (length es ≤ g.sio * suc (length bs))
  tail_length os b [] es d h = omega arith
  tail_length os b (c ∷ cs) es d h =
      omega (arith, tail_length os c cs (drop g.sio es) d h.2, length-drop g.sio es)

  -- and by the last block's counter
  pub tail_last : (os : List Overflow) (b : ℕ) (bs es : List ℕ) (d : ℕ) → Tail g i os b bs es d
      → length es ≡ g.sio * length bs + suc (overflow_at os (last_of b bs)).counter
  tail_last os b [] es d h = omega (arith, ap (λ (o : Overflow). o.counter) h.2)
  tail_last os b (c ∷ cs) es d h = omega (arith, tail_last os c cs (drop g.sio es) d h.2, length-drop g.sio es)

  own_block : (os : List Overflow) (b n l : ℕ) (ys : List ℕ) → overflow_at os b ≡ block_with g i n l ys → is_own i os b ≡ true
  own_block os b n l ys e = eq-eqb (overflow_at os b).owner i (ap (λ (o : Overflow). o.owner) e)

  -- following the blocks from the first gives them all, if n, the number that may be followed, is large enough
  follow_tail : (n : ℕ) (os : List Overflow) (b : ℕ) (bs es : List ℕ) (d : ℕ) → Tail g i os b bs es d
      → ((j : ℕ) → 0 < occurs j (b ∷ bs) → j < g.nob) → length bs < n → follow g n os b ≡ some (b ∷ bs)
  follow_tail zero os b bs es d h low l = absurd (omega arith)
  follow_tail (suc n) os b [] es d h low l =
      let e : (overflow_at os b).counter ≡ length es - 1 = ap (λ (o : Overflow). o.counter) h.2 in
      rw (
        lt-ltb b g.nob (low b (occurs_head b [])),
        step_last g.sio (overflow_at os b).counter (overflow_at os b).link (omega arith),
      )
  follow_tail (suc n) os b (c ∷ cs) es d h low l =
      let e : (overflow_at os b).counter ≡ g.sio = ap (λ (o : Overflow). o.counter) h.1 in
      let k : (overflow_at os b).link ≡ c = ap (λ (o : Overflow). o.link) h.1 in
      rw (
        lt-ltb b g.nob (low b (occurs_head b (c ∷ cs))),
        step_further g.sio (overflow_at os b).counter (overflow_at os b).link e,
        k,
        follow_tail n os c cs (drop g.sio es) d h.2 (λ j m. low j (omega arith)) (omega arith),
      )

  -- the blocks are the list's own
  own_tail : (os : List Overflow) (b : ℕ) (bs es : List ℕ) (d : ℕ) → Tail g i os b bs es d → every (is_own i os) (b ∷ bs) ≡ true
  own_tail os b [] es d h = true_both (own_block os b (length es - 1) d (padded g.sio es) h.2) refl
  own_tail os b (c ∷ cs) es d h =
      true_both (own_block os b g.sio c (padded g.sio es) h.1) (own_tail os c cs (drop g.sio es) d h.2)

  -- the slots in use of all blocks are the list's
  gather_tail : (os : List Overflow) (b : ℕ) (bs es : List ℕ) (d : ℕ) → Tail g i os b bs es d → gather g os (b ∷ bs) ≡ es
  gather_tail os b [] es d h =
      let e : suc (length es - 1) ≡ length es = omega arith in
      rw (h.2, e, take_padded g.sio es h.1, append-nil)
  gather_tail os b (c ∷ cs) es d h =
      let first : take (suc (overflow_at os b).counter) (overflow_at os b).slots ≡ take g.sio es =
      rw h.1
      (take_all (suc g.sio) (padded g.sio es) (omega (arith, length_padded g.sio es)) ∙ padded_take g.sio es (omega arith)) in
      ap₂ ◌++◌ first (gather_tail os c cs (drop g.sio es) d h.2) ∙ take-append-drop g.sio es

  -- the last block's link holds the basic block's first bits
  pub last_link : (os : List Overflow) (b : ℕ) (bs es : List ℕ) (d : ℕ) → Tail g i os b bs es d → (overflow_at os (last_of b bs)).link ≡ d
  last_link os b [] es d h = ap (λ (o : Overflow). o.link) h.2
  last_link os b (c ∷ cs) es d h = last_link os c cs (drop g.sio es) d h.2

  -- a list that stands in its blocks, followed to its end
  pub content_holds : (b : Basic) (os : List Overflow) (bs es : List ℕ) → Holds g i b os bs es
      → ((j : ℕ) → 0 < occurs j bs → j < g.nob) → length bs ≤ g.nob → content_of g i b os ≡ some (mk_content bs es)
  content_holds b os [] es h low l =
      rw (lt-ltb b.counter (suc g.sib) (omega arith), h.2, h.1, take_padded g.sib es h.0)
  content_holds b os (c ∷ cs) es h low l =
      let (d, long, e, k, u, t) = h in
      let first : unpack g (overflow_at os (last_of c cs)).link b.rest ≡ take g.sib es =
      ap (λ (n : ℕ). unpack g n b.rest) (last_link os c cs (drop g.sib es) d t) ∙ u ∙ padded_take g.sib es (omega arith) in
      rw (
        le-ltb b.counter (suc g.sib) (omega arith),
        eq-eqb b.counter (suc g.sib) e,
        k,
        follow_tail g.nob os c cs (drop g.sib es) d t low l,
        own_tail os c cs (drop g.sib es) d t,
      )
      (ap (λ (xs : List ℕ). some (mk_content (c ∷ cs) xs))
      (ap₂ ◌++◌ first (gather_tail os c cs (drop g.sib es) d t) ∙ take-append-drop g.sib es))

  pub holds_own : (b : Basic) (os : List Overflow) (bs es : List ℕ) → Holds g i b os bs es → every (is_own i os) bs ≡ true
  holds_own b os [] es h = refl
  holds_own b os (c ∷ cs) es h = own_tail os c cs (drop g.sib es) h.0 h.5

  -- a list's length by its blocks: at most all that they hold, and more than they hold without the last
  pub holds_length : (b : Basic) (os : List Overflow) (bs es : List ℕ) → Holds g i b os bs es
      → length es ≤ g.sib + g.sio * length bs
  holds_length b os [] es h = omega arith
  holds_length b os (c ∷ cs) es h = omega (arith, tail_length os c cs (drop g.sib es) h.0 h.5, length-drop g.sib es)

  pub holds_more : (b : Basic) (os : List Overflow) (c : ℕ) (cs es : List ℕ) → Holds g i b os (c ∷ cs) es
      → g.sib + g.sio * length cs < length es
  holds_more b os c cs es h = omega (arith, tail_length os c cs (drop g.sib es) h.0 h.5, length-drop g.sib es)
