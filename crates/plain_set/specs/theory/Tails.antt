-- What each change of the last block does to a list's overflow part. The blocks after it, us, are known by what stands at each block number.
use Rattle.std.specs.Prelude.{◌≡◌, ◌≢◌, ℕ, suc, ◌+◌, ◌-◌, ◌≤◌, ◌<◌, length, set, take, drop, eqb, ltb}
use Rattle.std.proofs.Math.Path.{refl, ap}
use Rattle.std.proofs.Common.{sym, subst, ◌∙◌, arith, drop_of_length-le, length-take-le, drop-set-lt}
use mathlib.Core.List.{List, [], ◌∷◌, ◌++◌}
use Rattle.std.proofs.Math.ListN.{length-drop, length-set}
use Rattle.std.proofs.lemmas.List.{drop-append-le}
use borrow.Author.Tests.{lt-ltb, ltb-true, ltb-false}
use Rattle.laws.specs.Cases.{cases}
use Rattle.laws.specs.Sums.{occurs_head}
use Rattle.settings.specs.declared.layout.Layout.{Layout}
use Rattle.settings.specs.Proper.{Proper}
use Rattle.table.specs.State.{Overflow, overflow_at, empty_block}
use Rattle.table.specs.Updates.{with_front, with_slot, with_link}
use Rattle.table.specs.Follow.{last_of, prev_of}
use Rattle.table.specs.Take.{occurs}
use Rattle.table.specs.Delete.{last_slot_off}
use Rattle.table.specs.Store.{store_overflow}
use Rattle.table.specs.Enter.{one_more}
use Rattle.plain_set.specs.theory.Count.{one}
use Rattle.plain_set.specs.theory.Pad.{padded_append, padded_append_le, padded_set, padded_set_out, padded_init, padded_init_out, length_snoc, drop_take, drop_set_ge}
use Rattle.plain_set.specs.theory.Rep.{block_with, Tail}
use Rattle.plain_set.specs.theory.Follow.{tail_last}
use Rattle.plain_set.specs.theory.Update.{set_here, set_there, tail_frame}

-- Block numbers: none twice ----------------------------------------------------------------------------------------------

pub occurs_last : (b : ℕ) (bs : List ℕ) → 0 < occurs (last_of b bs) (b ∷ bs)
occurs_last b [] = occurs_head b []
occurs_last b (c ∷ cs) = omega (arith, occurs_last c cs)

-- the first block is not the last of the others
not_last : (b c : ℕ) (cs : List ℕ) → ((j : ℕ) → occurs j (b ∷ c ∷ cs) ≤ 1) → b ≢ last_of c cs
not_last b c cs dis e =
    let z : occurs b (c ∷ cs) ≡ occurs (last_of c cs) (c ∷ cs) = ap (λ (n : ℕ). occurs n (c ∷ cs)) e in
    omega (arith, dis b, occurs_head b [], occurs_last c cs)

pub not_in : (b j : ℕ) (bs : List ℕ) → ((n : ℕ) → occurs n (b ∷ bs) ≤ 1) → 0 < occurs j bs → j ≢ b
not_in b j bs dis l e =
    let z : occurs j bs ≡ occurs b bs = ap (λ (n : ℕ). occurs n bs) e in
    omega (arith, dis b, occurs_head b [])

pub absent : (b f : ℕ) (bs : List ℕ) → occurs f (b ∷ bs) ≡ 0 → b ≢ f
absent b f bs z e = omega (arith, z, occurs_head f [], ap (λ (n : ℕ). occurs f (n ∷ [])) e)

-- a number that stands in a list is none that does not
pub apart : (j l : ℕ) (bs : List ℕ) → occurs j bs ≡ 0 → 0 < occurs l bs → j ≢ l
apart j l bs z m q = let e : occurs j bs ≡ occurs l bs = ap (λ (n : ℕ). occurs n bs) q in omega arith

-- the blocks c, cs but the last
abbrev pub but_last : ℕ → List ℕ → List ℕ
but_last c [] = []
but_last c (d ∷ ds) = c ∷ but_last d ds

pub occurs_but_last : (j c : ℕ) (cs : List ℕ) → occurs j (c ∷ cs) ≡ occurs j (but_last c cs) + one (eqb j (last_of c cs))
occurs_but_last j c [] = omega arith
occurs_but_last j c (d ∷ ds) = omega (arith, occurs_but_last j d ds)

pub occurs_prev : (b c : ℕ) (cs : List ℕ) → 0 < occurs (prev_of b c cs) (b ∷ but_last c cs)
occurs_prev b c [] = occurs_head b []
occurs_prev b c (d ∷ ds) = omega (arith, occurs_prev c d ds)

not_prev : (b c d : ℕ) (ds : List ℕ) → ((j : ℕ) → occurs j (b ∷ c ∷ d ∷ ds) ≤ 1) → b ≢ prev_of c d ds
not_prev b c d ds dis e =
    let z : occurs b (c ∷ but_last d ds) ≡ occurs (prev_of c d ds) (c ∷ but_last d ds) = ap (λ (n : ℕ). occurs n (c ∷ but_last d ds)) e in
    omega (arith, dis b, occurs_head b [], occurs_prev c d ds, occurs_but_last b d ds)

-- Blocks after a change --------------------------------------------------------------------------------------------------

abbrev pub last_block : List Overflow → ℕ → List ℕ → Overflow
last_block os b bs = overflow_at os (last_of b bs)

module _ (g : Layout) (i : ℕ) where
  -- one slot more in the last block
  pub tail_append : (os us : List Overflow) (b : ℕ) (bs es : List ℕ) (d x : ℕ) → Tail g i os b bs es d
      → ((j : ℕ) → occurs j (b ∷ bs) ≤ 1)
      → suc (last_block os b bs).counter < g.sio
      → last_block us b bs ≡ one_more x (last_block os b bs)
      → ((j : ℕ) → j ≢ last_of b bs → overflow_at us j ≡ overflow_at os j)
      → Tail g i us b bs (es ++ x ∷ []) d
  tail_append os us b [] es d x h dis room e rest =
      let n : suc (overflow_at os b).counter ≡ length es = omega (arith, ap (λ (o : Overflow). o.counter) h.2) in
      let l : length (es ++ x ∷ []) - 1 ≡ length es = omega (arith, length_snoc es x) in (
        omega (arith, length_snoc es x),
        omega (arith, length_snoc es x),
        e ∙ rw (n, h.2, l, padded_append g.sio es x (omega arith)),
      )
  tail_append os us b (c ∷ cs) es d x h dis room e rest = (
    omega (arith, length_snoc es x),
    rest b (not_last b c cs dis) ∙ h.1 ∙ ap (block_with g i g.sio c) (sym (padded_append_le g.sio es (x ∷ []) (omega arith))),
    rw (drop-append-le g.sio es (x ∷ []) (omega arith))
        (tail_append os us c cs (drop g.sio es) d x h.2 (λ j. omega (arith, dis j)) room e rest),
  )

  -- other bits v in the last block's link
  pub tail_relink : (os us : List Overflow) (b : ℕ) (bs es : List ℕ) (d v : ℕ) → Tail g i os b bs es d
      → ((j : ℕ) → occurs j (b ∷ bs) ≤ 1)
      → last_block us b bs ≡ with_link v (last_block os b bs)
      → ((j : ℕ) → j ≢ last_of b bs → overflow_at us j ≡ overflow_at os j)
      → Tail g i us b bs es v
  tail_relink os us b [] es d v h dis e rest = (h.0, h.1, e ∙ rw h.2)
  tail_relink os us b (c ∷ cs) es d v h dis e rest = (
    h.0,
    rest b (not_last b c cs dis) ∙ h.1,
    tail_relink os us c cs (drop g.sio es) d v h.2 (λ j. omega (arith, dis j)) e rest,
  )

  -- one slot less in a last block that keeps some
  pub tail_shrink : (os us : List Overflow) (b : ℕ) (bs es : List ℕ) (d m : ℕ) → Tail g i os b bs es d
      → ((j : ℕ) → occurs j (b ∷ bs) ≤ 1)
      → 0 < (last_block os b bs).counter
      → length es ≡ suc m
      → last_block us b bs ≡ last_slot_off (last_block os b bs)
      → ((j : ℕ) → j ≢ last_of b bs → overflow_at us j ≡ overflow_at os j)
      → Tail g i us b bs (take m es) d
  tail_shrink os us b [] es d m h dis some_left l e rest =
      let n : (overflow_at os b).counter ≡ m = omega (arith, ap (λ (o : Overflow). o.counter) h.2) in
      let t : length (take m es) ≡ m = length-take-le m es (omega arith) in (
        omega arith,
        omega arith,
        e ∙ rw (n, h.2, t, padded_init g.sio es m l (omega arith)),
      )
  tail_shrink os us b (c ∷ cs) es d m h dis some_left l e rest =
      let t : length (take m es) ≡ m = length-take-le m es (omega arith) in
      let k : length (drop g.sio es) ≡ suc (m - g.sio) = omega (arith, length-drop g.sio es) in
      let long = tail_last g i os c cs (drop g.sio es) d h.2 in (
        omega arith,
        rest b (not_last b c cs dis) ∙ h.1 ∙ ap (block_with g i g.sio c) (sym (padded_init_out g.sio es m (omega arith))),
        rw (drop_take g.sio m es)
            (tail_shrink os us c cs (drop g.sio es) d (m - g.sio) h.2 (λ j. omega (arith, dis j)) some_left k e rest),
      )

module _ {g : Layout} (F : Proper g) (i : ℕ) where
  -- a new block f behind a last block that is full: it takes the link
  pub tail_extend : (os us : List Overflow) (b : ℕ) (bs es : List ℕ) (d x f : ℕ) → Tail g i os b bs es d
      → ((j : ℕ) → occurs j (b ∷ bs) ≤ 1)
      → suc (last_block os b bs).counter ≡ g.sio
      → occurs f (b ∷ bs) ≡ 0
      → last_block us b bs ≡ with_front g.sio f (last_block os b bs)
      → overflow_at us f ≡ with_slot 0 x (empty_block g (last_block os b bs).link i)
      → ((j : ℕ) → j ≢ last_of b bs → j ≢ f → overflow_at us j ≡ overflow_at os j)
      → Tail g i us b (bs ++ f ∷ []) (es ++ x ∷ []) d
  tail_extend os us b [] es d x f h dis full new e k rest =
      let n : length es ≡ g.sio = omega (arith, ap (λ (o : Overflow). o.counter) h.2) in (
        omega (arith, length_snoc es x),
        e ∙ rw (h.2, padded_append_le g.sio es (x ∷ []) (omega arith)),
        rw (drop-append-le g.sio es (x ∷ []) (omega arith), drop_of_length-le es {i = g.sio} (omega arith))
            (omega arith, omega (arith, F.sio_low), k ∙ rw (h.2, padded_append g.sio [] x F.sio_low)),
      )
  tail_extend os us b (c ∷ cs) es d x f h dis full new e k rest = (
    omega (arith, length_snoc es x),
    rest b (not_last b c cs dis) (absent b f (c ∷ cs) new)
        ∙ h.1
        ∙ ap (block_with g i g.sio c) (sym (padded_append_le g.sio es (x ∷ []) (omega arith))),
    rw (drop-append-le g.sio es (x ∷ []) (omega arith))
        (tail_extend os us c cs (drop g.sio es) d x f h.2 (λ j. omega (arith, dis j)) full (omega arith) e k rest),
  )

  -- the last of several blocks, with its one slot, off: the one before it takes its link
  pub tail_drop : (os us : List Overflow) (b c : ℕ) (cs es : List ℕ) (d m : ℕ) → Tail g i os b (c ∷ cs) es d
      → ((j : ℕ) → occurs j (b ∷ c ∷ cs) ≤ 1)
      → (last_block os c cs).counter ≡ 0
      → length es ≡ suc m
      → overflow_at us (prev_of b c cs) ≡ with_front (g.sio - 1) (last_block os c cs).link (overflow_at os (prev_of b c cs))
      → ((j : ℕ) → j ≢ prev_of b c cs → j ≢ last_of c cs → overflow_at us j ≡ overflow_at os j)
      → Tail g i us b (but_last c cs) (take m es) d
  tail_drop os us b c [] es d m h dis single l e rest =
      let n : (overflow_at os c).counter ≡ length (drop g.sio es) - 1 = ap (λ (o : Overflow). o.counter) h.2.2 in
      let k : (overflow_at os c).link ≡ d = ap (λ (o : Overflow). o.link) h.2.2 in
      let t : length (take m es) ≡ m = length-take-le m es (omega arith) in
      let w : m ≡ g.sio = omega (arith, h.2.0, length-drop g.sio es) in (
        omega (arith, F.sio_low),
        omega arith,
        e ∙ rw (k, h.1, t, padded_init_out g.sio es m (omega arith), w),
      )
  tail_drop os us b c (c₂ ∷ cs) es d m h dis single l e rest =
      let t : length (take m es) ≡ m = length-take-le m es (omega arith) in
      let k : length (drop g.sio es) ≡ suc (m - g.sio) = omega (arith, length-drop g.sio es) in (
        omega (arith, h.2.0, length-drop g.sio es),
        rest b (not_prev b c c₂ cs dis) (not_last b c (c₂ ∷ cs) dis)
            ∙ h.1
            ∙ ap (block_with g i g.sio c) (sym (padded_init_out g.sio es m (omega arith))),
        rw (drop_take g.sio m es)
            (tail_drop os us c c₂ cs (drop g.sio es) d (m - g.sio) h.2 (λ j. omega (arith, dis j)) single k e rest),
      )

-- A slot of the overflow part overwritten --------------------------------------------------------------------------------

module _ (g : Layout) where
  pub store_else : (os : List Overflow) (bs : List ℕ) (q x j : ℕ) → occurs j bs ≡ 0
      → overflow_at (store_overflow g os bs q x) j ≡ overflow_at os j
  unfolding store_overflow
  store_else os [] q x j z = refl
  store_else os (b ∷ bs) q x j z =
      cases (ltb q g.sio)
      (λ e. rw e (set_there os b (with_slot q x (overflow_at os b)) j (λ p. absent b j bs z (sym p))))
      (λ e. rw e (store_else os bs (q - g.sio) x j (omega arith)))

  pub store_length : (os : List Overflow) (bs : List ℕ) (q x : ℕ) → length (store_overflow g os bs q x) ≡ length os
  unfolding store_overflow
  store_length os [] q x = refl
  store_length os (b ∷ bs) q x =
      cases (ltb q g.sio) (λ e. rw e (simp length-set)) (λ e. rw e (store_length os bs (q - g.sio) x))

  pub tail_store : (i : ℕ) (os : List Overflow) (b : ℕ) (bs es : List ℕ) (d q x : ℕ) → Tail g i os b bs es d
      → ((j : ℕ) → occurs j (b ∷ bs) ≤ 1)
      → ((j : ℕ) → 0 < occurs j (b ∷ bs) → j < length os)
      → q < length es
      → Tail g i (store_overflow g os (b ∷ bs) q x) b bs (set es q x) d
  unfolding store_overflow
  tail_store i os b [] es d q x h dis low l =
      rw (lt-ltb q g.sio (omega arith)) (
        omega (arith, length-set es q x),
        omega (arith, length-set es q x),
        set_here os b (with_slot q x (overflow_at os b)) (low b (occurs_head b []))
            ∙ rw (h.2, length-set es q x, padded_set g.sio es q x l (omega arith)),
      )
  tail_store i os b (c ∷ cs) es d q x h dis low l =
      cases (ltb q g.sio)
      (λ e.
      let v : Overflow = with_slot q x (overflow_at os b) in
      let there : store_overflow g os (b ∷ c ∷ cs) q x ≡ set os b v = rw e refl in
      rw e (
        omega (arith, length-set es q x),
        set_here os b v (low b (occurs_head b (c ∷ cs))) ∙ rw (h.1, padded_set g.sio es q x l (ltb-true q g.sio e)),
        rw (drop-set-lt g.sio es q x (ltb-true q g.sio e))
            (subst (λ (o : List Overflow). Tail g i o c cs (drop g.sio es) d) (sym there)
            (tail_frame g i os (set os b v) c cs (drop g.sio es) d (λ j m. set_there os b v j (not_in b j (c ∷ cs) dis m)) h.2)),
      ))
      (λ e.
      let m : g.sio ≤ q = ltb-false q g.sio e in
      let there : store_overflow g os (b ∷ c ∷ cs) q x ≡ store_overflow g os (c ∷ cs) (q - g.sio) x = rw e refl in
      rw e (
        omega (arith, length-set es q x),
        store_else os (c ∷ cs) (q - g.sio) x b (omega (arith, dis b, occurs_head b []))
            ∙ h.1
            ∙ ap (block_with g i g.sio c) (sym (padded_set_out g.sio es q x m)),
        rw (drop_set_ge g.sio es q x m)
            (subst (λ (o : List Overflow). Tail g i o c cs (set (drop g.sio es) (q - g.sio) x) d) (sym there)
            (tail_store i os c cs (drop g.sio es) d (q - g.sio) x h.2 (λ j. omega (arith, dis j)) (λ j z. low j (omega arith))
            (omega (arith, length-drop g.sio es)))),
      ))
