-- A state that holds lists of slots, as the calls see and change it: what following a list gives, how many blocks are used, and what append, a store
-- and delete make of the lists. The next level needs no more of the blocks than this.
use Rattle.std.specs.Prelude.{◌≡◌, refl, true, false, List, [], ◌∷◌, ◌++◌, ℕ, ◌+◌, ◌-◌, ◌<◌, length, get_or, set, take, eqb}
use Rattle.std.proofs.Common.{sym, ap, ◌∙◌, arith, length-set, get_or-set_same, set-set, pow_pos}
use Rattle.std.proofs.Math.Option.{some}
use Rattle.std.proofs.lemmas.List.{set-get_or}
use Rattle.laws.specs.Folds.{sum_below}
use Rattle.laws.specs.Cases.{never}
use Rattle.laws.specs.Tests.{eqb_iff}
use Rattle.laws.specs.Sums.{sum_ext}
use Rattle.settings.specs.declared.layout.Layout.{Layout}
use Rattle.settings.specs.Proper.{Proper}
use Rattle.table.specs.State.{State, basic_at}
use Rattle.table.specs.Follow.{mk_content, content}
use Rattle.table.specs.Enter.{append}
use Rattle.table.specs.Delete.{shrink, take_out}
use Rattle.table.specs.Done.{Done, damage, no_block, done}
use Rattle.table.specs.Store.{store_at}
use Rattle.table.specs.theory.Formed.{all_get_d, Fits}
use Rattle.plain_set.specs.theory.Count.{sum, sum_at, sum_below_list}
use Rattle.plain_set.specs.theory.Blocks.{blocks_total}
use Rattle.plain_set.specs.theory.Swap.{swap_out}
use Rattle.plain_set.specs.theory.Rep.{Rep, Stores}
use Rattle.plain_set.specs.theory.Follow.{content_holds}
use Rattle.plain_set.specs.theory.Use.{blocks_for, used_by, no_room, blocks_holds}
use Rattle.plain_set.specs.theory.Update.{Standing, rep_standing, rep_edit}
use Rattle.plain_set.specs.theory.Append.{Appended, append_local}
use Rattle.plain_set.specs.theory.Delete.{store_local, Shrunk, shrink_local}

module _ (g : Layout) where
  -- a change that was done, and the lists after it
  pub record Ended (o : Done) (T : List (List ℕ)) : Type 0 where
    pub after : State
    pub is : o ≡ done after
    pub stores : Stores g after T

  -- an append to list i of st that was done, where the lists stood in the blocks B, and the lists after it: list i has its blocks, or these and the
  -- first free one, and no other list has others
  pub record Extended (st : State) (B : List (List ℕ)) (i : ℕ) (o : Done) (T : List (List ℕ)) : Type 0 where
    pub after : State
    pub is : o ≡ done after
    pub cs : List ℕ
    pub ns : List ℕ
    pub rep : Rep g after T (set B i cs) ns
    pub rest : List ℕ
    pub blocks : cs ++ rest ≡ get_or B i [] ++ st.free ∷ []

-- list i, followed to its end: its blocks and its slots
pub rep_content : {g : Layout} {st : State} {T B : List (List ℕ)} {fs : List ℕ} → Rep g st T B fs → (i : ℕ) → i < g.lists
    → content g st i ≡ some (mk_content (get_or B i []) (get_or T i []))
unfolding content
rep_content {g} {st} {T} {B} {fs} r i h =
    content_holds g i (basic_at st.basic i) st.overflow (get_or B i []) (get_or T i []) (r.each i h)
    (λ j l. (rep_standing r h).low j (omega arith))
    (omega (arith, blocks_total g.nob B fs r.once, sum_at length B i [] (omega (arith, r.blocks))))

module _ {g : Layout} (F : Proper g) {st : State} {T B : List (List ℕ)} {fs : List ℕ} (r : Rep g st T B fs) where
  -- the blocks used and the free ones are all blocks
  pub used_blocks : used_by g T + length fs ≡ g.nob
  used_blocks = omega (arith, blocks_total g.nob B fs r.once, used)
    where
      used : used_by g T ≡ sum length B
      used =
          sum_ext g.lists (λ i. blocks_for g.sib g.sio (length (get_or T i []))) (λ i. length (get_or B i []))
          (λ i h. blocks_holds F i (basic_at st.basic i) st.overflow (get_or B i []) (get_or T i []) (r.each i h))
          ∙ ap (λ (n : ℕ). sum_below n (λ i. length (get_or B i []))) (sym r.blocks)
          ∙ sum_below_list length B []

  -- all blocks are used exactly if none is free
  pub used_all : eqb (used_by g T) g.nob ≡ eqb (length fs) 0
  used_all =
      let t = used_blocks in
      eqb_iff (used_by g T) g.nob (length fs) 0 (λ q. omega arith) (λ q. omega arith)

  module _ (i : ℕ) (h : i < g.lists) where
    -- the slot x at the end of list i: refused for want of a block where that is due, and else done
    module _ (x : ℕ) (fx : Fits g.slot x) where
      pub append_refused : no_room g T i ≡ true → append g st i (get_or B i []) x ≡ no_block
      append_refused = go (append g st i (get_or B i []) x) (append_local F x fx (get_or B i []) fs (rep_standing r h))
        where
          go : (o : Done) → Appended g st i (get_or B i []) fs (get_or T i []) x o → no_room g T i ≡ true → o ≡ no_block
          go damage w = absurd w
          go no_block w = λ e. refl
          go (done u) w = rw (used_all, w.0) (λ e. never e)

      pub append_done : no_room g T i ≡ false → Extended g st B i (append g st i (get_or B i []) x) (set T i (get_or T i [] ++ x ∷ []))
      append_done = go (append g st i (get_or B i []) x) (append_local F x fx (get_or B i []) fs (rep_standing r h))
        where
          go : (o : Done) → Appended g st i (get_or B i []) fs (get_or T i []) x o → no_room g T i ≡ false
              → Extended g st B i o (set T i (get_or T i [] ++ x ∷ []))
          go damage w = absurd w
          go no_block w = rw (used_all, w) (λ e. never (sym e))
          go (done u) w = λ e.
              record {
                after = u;
                is = refl;
                cs = w.1.cs;
                ns = w.1.ns;
                rep = rep_edit r h w.1.edit;
                rest = w.1.rest;
                blocks = w.1.blocks;
              }

    -- the slot x stored in place p of list i: its blocks and the free chain stay
    pub store_done : (p x : ℕ) → p < length (get_or T i []) → Fits g.slot x
        → Rep g (store_at g st i (get_or B i []) p x) (set T i (set (get_or T i []) p x)) B fs
    store_done p x l fx = rw (set-get_or B i []) at (rep_edit r h (store_local p x l fx (get_or B i []) (rep_standing r h)))

    -- the last slot of list i moved into place p, and its own place off
    pub delete_done : (p : ℕ) → p < length (get_or T i [])
        → Ended g (take_out g st i (mk_content (get_or B i []) (get_or T i [])) p)
        (set T i (swap_out (get_or T i []) p))
    delete_done p l =
        let es : List ℕ = get_or T i [] in
        let x : ℕ = get_or es (length es - 1) 0 in
        let fx : Fits g.slot x = all_get_d (r.fits i h) (pow_pos g.slot) (length es - 1) in
        let u : State = store_at g st i (get_or B i []) p x in
        let r₁ : Rep g u (set T i (set es p x)) B fs = store_done p x l fx in
        let k : Standing g u i (get_or B i []) fs (set es p x) =
        rw (get_or-set_same T i (set es p x) [] (omega (arith, r.lists))) at (rep_standing r₁ h) in
        go (set es p x) u r₁ (length es - 1) (shrink g u i (get_or B i []))
        (shrink_local F (length es - 1) (omega (arith, length-set es p x)) (get_or B i []) fs k)
      where
        go : (ys : List ℕ) (u : State) → Rep g u (set T i ys) B fs → (n : ℕ) (o : Done) → Shrunk g u i (get_or B i []) fs (take n ys) o
            → Ended g o (set T i (take n ys))
        go ys u q n damage w = absurd w
        go ys u q n no_block w = absurd w
        go ys u q n (done v) w =
            record {
              after = v;
              is = refl;
              stores = record { B = set B i w.cs; fs = w.ns; rep = rw (set-set T i ys (take n ys)) at (rep_edit q h w.edit) };
            }
