-- Laws of one block's step, case by case.
use mathlib.Core.Path.{◌≡◌, refl}
use mathlib.Core.Bool.{Bool, true, false, cond}
use mathlib.Core.List.{List}
use Prim.Native.Nat.{ℕ}
use lib.Dec.{eqb}
use borrow.Author.Tests.{eq-eqb, ne_eqb}
use Rattle.laws.specs.Folds.{all_zero}
use Rattle.settings.specs.declared.layout.Layout.{Layout}
use Rattle.table.specs.State.{Overflow, overflow_at}
use Rattle.table.specs.Follow.{further, step_at}
use Rattle.table.specs.Check.{overflow_unused}
use Rattle.table.specs.declared.step.Step.{Step}
use Rattle.table.specs.declared.step.Step.TheVariants.{Last, Further, Damage}
use Rattle.table_check.specs.Walk.{tested, list_step, chain_step}

tested_other : (q : Bool) (s : Step) → (s ≡ Last → ⊥) → tested q s ≡ s
tested_other q Last f = absurd (f refl)
tested_other q (Further c) f = refl
tested_other q Damage f = refl

-- ---- a block of list i

module _ (g : Layout) (os : List Overflow) (i b : ℕ) where
  -- another list's
  pub list_alien : ((overflow_at os b).owner ≡ i → ⊥) → list_step g os i b ≡ Damage
  unfolding list_step
  list_alien f = rw (ne_eqb (overflow_at os b).owner i f)

  pub list_other : (overflow_at os b).owner ≡ i → (s : Step) → step_at g os b ≡ s → (s ≡ Last → ⊥) → list_step g os i b ≡ s
  unfolding list_step
  list_other o s e f = rw (eq-eqb (overflow_at os b).owner i o, e) (tested_other (overflow_unused g os b) s f)

  pub list_last : (overflow_at os b).owner ≡ i → step_at g os b ≡ Last → (q : Bool) → overflow_unused g os b ≡ q → list_step g os i b ≡ cond q Last Damage
  unfolding list_step
  list_last o e q u = rw (eq-eqb (overflow_at os b).owner i o, e, u)

-- ---- a block of the free chain

module _ (g : Layout) (os : List Overflow) (b : ℕ) where
  pub chain_used : ((overflow_at os b).counter ≡ 0 → ⊥) → chain_step g os b ≡ Damage
  unfolding chain_step
  chain_used f = rw (ne_eqb (overflow_at os b).counter 0 f)

  pub chain_owned : (overflow_at os b).counter ≡ 0 → ((overflow_at os b).owner ≡ 0 → ⊥) → chain_step g os b ≡ Damage
  unfolding chain_step
  chain_owned e f = rw (eq-eqb (overflow_at os b).counter 0 e, ne_eqb (overflow_at os b).owner 0 f)

  pub chain_full : (overflow_at os b).counter ≡ 0 → (overflow_at os b).owner ≡ 0 → all_zero (overflow_at os b).slots ≡ false → chain_step g os b ≡ Damage
  unfolding chain_step
  chain_full e o z = rw (eq-eqb (overflow_at os b).counter 0 e, eq-eqb (overflow_at os b).owner 0 o, z)

  pub chain_free : (overflow_at os b).counter ≡ 0 → (overflow_at os b).owner ≡ 0 → all_zero (overflow_at os b).slots ≡ true
      → chain_step g os b ≡ cond (eqb (overflow_at os b).link b) Last (further (overflow_at os b).link)
  unfolding chain_step
  chain_free e o z = rw (eq-eqb (overflow_at os b).counter 0 e, eq-eqb (overflow_at os b).owner 0 o, z)
