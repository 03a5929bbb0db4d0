-- The length rule of clause 8.8: how many overflow blocks a list of n slots uses, and when it has no vacant slot; and that the blocks of a list
-- are that many.
use Rattle.std.specs.Prelude.{◌≡◌, Bool, ◌&&◌, List, [], ◌∷◌, ℕ, suc, ◌+◌, ◌-◌, ◌*◌, ◌/◌, ◌≤◌, ◌<◌, length, get_or, eqb, ltb}
use Rattle.std.proofs.Common.{sym, ap, ◌∙◌, arith, ltb-true, ltb-false}
use Rattle.std.proofs.Math.Nat.{div-eq_of_lt, div-eq_of_lt-le}
use Rattle.laws.specs.Folds.{sum_below}
use Rattle.laws.specs.Cases.{cases}
use Rattle.laws.specs.Tests.{eqb_iff}
use Rattle.settings.specs.declared.layout.Layout.{Layout}
use Rattle.settings.specs.Proper.{Proper}
use Rattle.table.specs.State.{Basic, Overflow}
use Rattle.plain_set.specs.theory.Rep.{Holds}
use Rattle.plain_set.specs.theory.Follow.{holds_length, holds_more}

module _ (sib sio : ℕ) where
  -- clause 8.8: the overflow blocks of a list of length n, (n - sib) / sio rounded up
  unfoldable pub blocks_for : ℕ → ℕ
  blocks_for n = (n - sib + (sio - 1)) / sio

  -- clause 8.8: one entry more would use one block more
  abbrev pub no_vacant : ℕ → Bool
  no_vacant n = eqb (blocks_for (suc n)) (suc (blocks_for n))

module _ (g : Layout) where
  -- the blocks that all lists together use, by their lengths
  abbrev pub used_by : List (List ℕ) → ℕ
  used_by T = sum_below g.lists (λ i. blocks_for g.sib g.sio (length (get_or T i [])))

  -- "no block" is due: the list has no vacant slot, and all blocks are used
  abbrev pub no_room : List (List ℕ) → ℕ → Bool
  no_room T i = no_vacant g.sib g.sio (length (get_or T i [])) && eqb (used_by T) g.nob

module _ {g : Layout} (F : Proper g) where
  uses_none : (n : ℕ) → n ≤ g.sib → blocks_for g.sib g.sio n ≡ 0
  unfolding blocks_for
  uses_none n h = div-eq_of_lt (omega (arith, F.sio_low))

  uses_some : (n m : ℕ) → g.sib + g.sio * m < n → n ≤ g.sib + g.sio * suc m → blocks_for g.sib g.sio n ≡ suc m
  unfolding blocks_for
  uses_some n m h l = div-eq_of_lt-le g.sio (omega (arith, F.sio_low)) (omega (arith, F.sio_low))

  -- a list's blocks are as many as its length uses
  pub blocks_holds : (i : ℕ) (b : Basic) (os : List Overflow) (bs es : List ℕ) → Holds g i b os bs es
      → blocks_for g.sib g.sio (length es) ≡ length bs
  blocks_holds i b os [] es h = uses_none (length es) h.0
  blocks_holds i b os (c ∷ cs) es h = uses_some (length es) (length cs) (holds_more g i b os c cs es h) (holds_length g i b os (c ∷ cs) es h)

  -- a list has no vacant slot exactly if its blocks are full
  pub full_holds : (i : ℕ) (b : Basic) (os : List Overflow) (bs es : List ℕ) → Holds g i b os bs es
      → no_vacant g.sib g.sio (length es) ≡ eqb (length es) (g.sib + g.sio * length bs)
  full_holds i b os bs es h =
      eqb_iff (blocks_for g.sib g.sio (suc (length es))) (suc (blocks_for g.sib g.sio (length es)))
      (length es) (g.sib + g.sio * length bs)
      (λ q. exact (q ∙ ap suc (blocks_holds i b os bs es h)))
      (λ q. uses_some (suc (length es)) (length bs) (omega arith) (omega (arith, F.sio_low)) ∙ ap suc (sym (blocks_holds i b os bs es h)))
    where
      more : (cs : List ℕ) → Holds g i b os cs es → length es < g.sib + g.sio * length cs
          → blocks_for g.sib g.sio (suc (length es)) ≡ suc (length cs) → ⊥
      more [] w l q = omega (arith, uses_none (suc (length es)) (omega arith))
      more (c ∷ cs) w l q = omega (arith, uses_some (suc (length es)) (length cs) (omega (arith, holds_more g i b os c cs es w)) l)

      exact : blocks_for g.sib g.sio (suc (length es)) ≡ suc (length bs) → length es ≡ g.sib + g.sio * length bs
      exact q =
          cases (ltb (length es) (g.sib + g.sio * length bs))
          (λ e. absurd (more bs h (ltb-true (length es) (g.sib + g.sio * length bs) e) q))
          (λ e. omega (arith, ltb-false (length es) (g.sib + g.sio * length bs) e, holds_length g i b os bs es h))
