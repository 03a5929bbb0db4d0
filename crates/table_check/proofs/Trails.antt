-- The trail of a list is its own blocks, followed, with their unused slots tested; that of the free chain is the chain with its zeros tested.
use mathlib.Core.Path.{◌≡◌, refl, sym, ap, ◌∙◌}
use mathlib.Core.Bool.{Bool, true, false, cond}
use mathlib.Core.List.{List, [], ◌∷◌}
use mathlib.Core.Option.{Option, none, some}
use Prim.Native.Nat.{ℕ, zero, suc, ◌<◌}
use native.Mathlib.Omega.{arith}
use lib.ListN.{length, drop_of_length-le}
use lib.Dec.{eqb, ltb}
use borrow.Author.Tests.{ltb-true}
use Rattle.laws.specs.Folds.{every, all_zero}
use Rattle.laws.specs.Cases.{cases}
use Rattle.laws.specs.Options.{nothing}
use Rattle.settings.specs.declared.layout.Layout.{Layout}
use Rattle.table.specs.State.{Overflow, overflow_at}
use Rattle.table.specs.Follow.{cons?, follow, go_on, is_own, own_blocks, step_at}
use Rattle.table.specs.Check.{overflow_unused, free_zero, chain_from}
use Rattle.table_check.specs.Walk.{list_step, chain_step, tested}
use Rattle.table_check.proofs.Marks.{trail, blocks_on}
use Rattle.table.specs.theory.Ways.{Way, ends, goes, breaks, way}
use Rattle.table.specs.declared.step.Step.{Step}
use Rattle.table.specs.declared.step.Step.TheVariants.{Last, Further, Damage}

-- the blocks, if each passes the test
abbrev pub keep : (ℕ → Bool) → Option (List ℕ) → Option (List ℕ)
keep f none = none
keep f (some bs) = cond (every f bs) (some bs) none

keep_cons : (f : ℕ → Bool) (b : ℕ) → f b ≡ true → (o : Option (List ℕ)) → cons? b (keep f o) ≡ keep f (cons? b o)
keep_cons f b p none = refl
keep_cons f b p (some bs) = cases (every f bs) (λ q. rw (p, q)) (λ q. rw (p, q))

keep_not : (f : ℕ → Bool) (b : ℕ) → f b ≡ false → (o : Option (List ℕ)) → none ≡ keep f (cons? b o)
keep_not f b p none = refl
keep_not f b p (some bs) = rw p

-- a trail that is kept is one, and passes
pub record Kept (f : ℕ → Bool) (bs : List ℕ) (o : Option (List ℕ)) : Type 0 where
  pub is : o ≡ some bs
  pub pass : every f bs ≡ true

pub kept : (f : ℕ → Bool) (bs : List ℕ) (o : Option (List ℕ)) → keep f o ≡ some bs → Kept f bs o
kept f bs none = λ e. nothing e
kept f bs (some cs) =
    cases (every f cs)
    (λ q. rw q (λ e. let r : cs ≡ bs = cc in record { is = e; pass = ap (every f) (sym r) ∙ q }))
    (λ q. rw q (λ e. nothing e))

pub keeps : (f : ℕ → Bool) (bs : List ℕ) → every f bs ≡ true → keep f (some bs) ≡ some bs
keeps f bs q = rw q

module _ (g : Layout) (os : List Overflow) where
  unused_full : (b : ℕ) → length (overflow_at os b).slots ≡ g.sio → (overflow_at os b).counter ≡ g.sio → overflow_unused g os b ≡ true
  unused_full b h e = ap all_zero (drop_of_length-le (overflow_at os b).slots {i = suc (overflow_at os b).counter} (omega arith))

  module _ (i : ℕ) where
    -- a list's own blocks are those of a test
    own_keep : (o : Option (List ℕ)) → keep (is_own i os) o ≡ own_blocks i os o
    own_keep none = refl
    own_keep (some bs) = refl

    -- one block of list i
    step_trail : (n b : ℕ) → length (overflow_at os b).slots ≡ g.sio → (trace : ℕ → Option (List ℕ))
        → ((c : ℕ) → trace c ≡ keep (overflow_unused g os) (keep (is_own i os) (follow g n os c)))
        → (s : Step) → Way g.sio (overflow_at os b).counter (overflow_at os b).link s
        → blocks_on b (cond (is_own i os b) (tested (overflow_unused g os b) s) Damage) trace
        ≡ keep (overflow_unused g os) (keep (is_own i os) (go_on s (b ∷ []) (λ c. cons? b (follow g n os c))))
    step_trail n b h trace ih Last (ends l) =
        cases (is_own i os b) (λ o. cases (overflow_unused g os b) (λ u. rw (o, u)) (λ u. rw (o, u))) (λ o. rw o)
    step_trail n b h trace ih (Further c) (goes e) =
        let on = follow g n os (overflow_at os b).link in
        cases (is_own i os b)
        (λ o. rw o
        (ap (cons? b) (ih (overflow_at os b).link)
        ∙ keep_cons (overflow_unused g os) b (unused_full b h e) (keep (is_own i os) on)
        ∙ ap (keep (overflow_unused g os)) (keep_cons (is_own i os) b o on)))
        (λ o. rw o (ap (keep (overflow_unused g os)) (keep_not (is_own i os) b o on)))
    step_trail n b h trace ih Damage (breaks l) = cases (is_own i os b) (λ o. rw o) (λ o. rw o)

    own_trail : ((b : ℕ) → b < g.nob → length (overflow_at os b).slots ≡ g.sio) → (n b : ℕ)
        → trail g (list_step g os i) n b ≡ keep (overflow_unused g os) (keep (is_own i os) (follow g n os b))
    unfolding trail list_step
    own_trail full zero b = refl
    own_trail full (suc n) b =
        cases (ltb b g.nob)
        (λ p. rw p
        (step_trail n b (full b (ltb-true b g.nob p)) (trail g (list_step g os i) n) (own_trail full n) (step_at g os b)
        (way g.sio (overflow_at os b).counter (overflow_at os b).link)))
        (λ p. rw p)

    pub list_trail : ((b : ℕ) → b < g.nob → length (overflow_at os b).slots ≡ g.sio) → (n b : ℕ)
        → trail g (list_step g os i) n b ≡ keep (overflow_unused g os) (own_blocks i os (follow g n os b))
    list_trail full n b = own_trail full n b ∙ ap (keep (overflow_unused g os)) (own_keep (follow g n os b))

  pub chain_trail : (n b : ℕ) → trail g (chain_step g os) n b ≡ keep (free_zero g os) (chain_from g n os b)
  unfolding trail chain_step
  chain_trail zero b = refl
  chain_trail (suc n) b =
      cases (ltb b g.nob)
      (λ p. cases (free_zero g os b)
      (λ z. cases (eqb (overflow_at os b).link b)
      (λ q. rw (p, q, z))
      (λ q. rw (p, z, q) (ap (cons? b) (chain_trail n (overflow_at os b).link) ∙ keep_cons (free_zero g os) b z (chain_from g n os (overflow_at os b).link))))
      (λ z. cases (eqb (overflow_at os b).link b)
      (λ q. rw (p, q, z))
      (λ q. rw (p, z, q) (keep_not (free_zero g os) b z (chain_from g n os (overflow_at os b).link)))))
      (λ p. rw p)
