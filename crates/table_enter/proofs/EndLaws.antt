-- The number of the slot behind a list's last: in its basic block, in its last overflow block, or in the first free block.
use mathlib.Core.Path.{◌≡◌, sym, ap, subst, ◌∙◌}
use mathlib.Core.Bool.{true, cond}
use mathlib.Core.List.{List, [], ◌∷◌, ◌++◌}
use mathlib.Core.Option.{some}
use Prim.Native.Nat.{ℕ, suc, ◌+◌, ◌-◌, ◌≤◌, ◌<◌}
use native.Mathlib.Omega.{arith}
use native.Mathlib.Decide.{dec_le}
use lib.ListN.{length, take, length-append, length-take}
use lib.Dec.{ltb}
use borrow.Author.Tests.{lt-ltb, le-ltb}
use Rattle.laws.specs.Folds.{every}
use Rattle.settings.specs.Proper.{Proper}
use Rattle.settings.specs.declared.layout.Layout.{Layout}
use Rattle.table.specs.State.{Overflow, State, basic_at, overflow_at, unpack, own_slots}
use Rattle.table.specs.Follow.{last_of, gather, is_own}
use Rattle.table.specs.Numbers.{basic_number, overflow_number, block_number, slot_number}
use Rattle.table_read.specs.Steps.{OwnFollowed, last_in}
use Rattle.table_read.specs.theory.Reads.{unpack_length}
use Rattle.table_read.specs.theory.Walks.{Chain, ends, more, owns, ended_own, content_short}
use Rattle.table_read.specs.theory.BlockSlots.{Chained, chained, content_chained}
use Rattle.table_read.specs.theory.Finds.{number_basic, number_behind}
use Rattle.table_enter.specs.Enters.{end_in, number_for}

-- behind the slots of the overflow blocks: in the last of them if it has room, else in block f
module _ (g : Layout) (F : Proper g) (os : List Overflow) (sized : (j : ℕ) → j < g.nob → length (overflow_at os j).slots ≡ g.sio) (f : ℕ) where
  abbrev pub behind_last : ℕ → ℕ
  behind_last l = let n = suc (overflow_at os l).counter in cond (ltb n g.sio) (overflow_number g l n) (overflow_number g f 0)

  block_length : (b : ℕ) (ys : List ℕ) → b < g.nob → (overflow_at os b).counter ≤ g.sio
      → ((overflow_at os b).counter < g.sio → length (take (suc (overflow_at os b).counter) (overflow_at os b).slots ++ ys) ≡ suc (overflow_at os b).counter + length ys)
      × ((overflow_at os b).counter ≡ g.sio → length (take (suc (overflow_at os b).counter) (overflow_at os b).slots ++ ys) ≡ g.sio + length ys)
  block_length b ys h l =
      let a = length-append (take (suc (overflow_at os b).counter) (overflow_at os b).slots) ys in
      let c = length-take (suc (overflow_at os b).counter) (overflow_at os b).slots in
      let s = sized b h in
      ((λ k. omega arith), (λ k. omega arith))

  pub end_block : {b : ℕ} {cs : List ℕ} → Chain g os b cs → block_number g ((b ∷ cs) ++ f ∷ []) (length (gather g os (b ∷ cs))) ≡ behind_last (last_of b cs)
  end_block (ends {b} h l) = pick (dec_le g.sio (suc (overflow_at os b).counter))
    where
      n : length (gather g os (b ∷ [])) ≡ suc (overflow_at os b).counter
      n = omega (arith, (block_length b [] h (omega arith)).0 l)

      pick : Dec (g.sio ≤ suc (overflow_at os b).counter) → block_number g (b ∷ f ∷ []) (length (gather g os (b ∷ []))) ≡ behind_last b
      pick (yes k) =
          let z : suc (overflow_at os b).counter - g.sio ≡ 0 = omega arith in
          rw (n, le-ltb (suc (overflow_at os b).counter) g.sio k, z, lt-ltb 0 g.sio F.sio_low)
      pick (no k) = rw (n, lt-ltb (suc (overflow_at os b).counter) g.sio (omega arith))
  end_block (more {b} {cs} h e c) =
      let ys = gather g os ((overflow_at os b).link ∷ cs) in
      let n = (block_length b ys h (omega arith)).1 e in
      let z : g.sio + length ys - g.sio ≡ length ys = omega arith in
      rw (n, le-ltb (g.sio + length ys) g.sio (omega arith), z) (end_block c)

module _ (g : Layout) (F : Proper g) (st : State) (i : ℕ) where
  abbrev b : ℕ
  b = (basic_at st.basic i).counter

  -- a list without overflow blocks has as many slots in use as its counter says
  short_number : b ≤ g.sib → number_for g st i ≡ slot_number g i (st.free ∷ []) b
  unfolding number_for
  short_number h =
      let own = own_slots g (basic_at st.basic i) in
      let n : length (take b own) ≡ b = omega (arith, length-take b own, unpack_length g (basic_at st.basic i).head (basic_at st.basic i).rest) in
      rw (content_short g st i h, n)

  pub room_number : (c : ℕ) → c < g.sib → c ≡ b → number_for g st i ≡ basic_number g i c
  room_number c h e = short_number (omega arith) ∙ ap (slot_number g i (st.free ∷ [])) (sym e) ∙ number_basic g i (st.free ∷ []) c h

  pub first_number : (f : ℕ) → f ≡ st.free → b ≡ g.sib → number_for g st i ≡ overflow_number g f 0
  first_number f e full =
      let z : b ≡ g.sib + 0 = omega arith in
      short_number (omega arith)
      ∙ ap (slot_number g i (st.free ∷ [])) z
      ∙ number_behind g i (st.free ∷ []) 0
      ∙ rw (lt-ltb 0 g.sio F.sio_low) (ap (λ (x : ℕ). overflow_number g x 0) (sym e))

  -- the list overflows, and ends in block j
  module _ (sized : (j : ℕ) → j < g.nob → length (overflow_at st.overflow j).slots ≡ g.sio) (over : b ≡ suc g.sib)
      (W : OwnFollowed g i g.nob st.overflow (basic_at st.basic i).head) (j : ℕ) (last : last_in g (some W.blocks) ≡ j) where
    abbrev head : ℕ
    head = (basic_at st.basic i).head

    c : Chained g st.overflow head
    c = chained g st.overflow head (ended_own g st.overflow i W)

    are : W.blocks ≡ head ∷ c.others
    are = let p = (owns g st.overflow i W).found in let q = c.found in cc

    over_is : number_for g st i ≡ slot_number g i ((head ∷ c.others) ++ st.free ∷ []) (g.sib + length (gather g st.overflow (head ∷ c.others)))
    unfolding number_for
    over_is =
        let own = unpack g (overflow_at st.overflow (last_of head c.others)).link (basic_at st.basic i).rest in
        let ys = gather g st.overflow (head ∷ c.others) in
        let n : length (own ++ ys) ≡ g.sib + length ys =
        omega (arith, length-append own ys, unpack_length g (overflow_at st.overflow (last_of head c.others)).link (basic_at st.basic i).rest) in
        ap (end_in g st i) (content_chained g st i over c (subst (λ (bs : List ℕ). every (is_own i st.overflow) bs ≡ true) are (owns g st.overflow i W).own))
        ∙ ap (slot_number g i ((head ∷ c.others) ++ st.free ∷ [])) n

    pub over_number : number_for g st i ≡ behind_last g F st.overflow sized st.free j
    over_number =
        over_is
        ∙ number_behind g i ((head ∷ c.others) ++ st.free ∷ []) (length (gather g st.overflow (head ∷ c.others)))
        ∙ end_block g F st.overflow sized st.free c.chain
        ∙ ap (behind_last g F st.overflow sized st.free) (ap (λ (bs : List ℕ). last_in g (some bs)) (sym are) ∙ last)
