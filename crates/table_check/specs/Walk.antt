-- Blocks followed one by one, each with its mark. `walk` is `follow`, or the free chain, with the tests of each block and its mark.
use Rattle.std.specs.Prelude.{ℕ, zero, suc, Bool, true, false, cond, List, eqb, ltb}
use Rattle.std.proofs.Math.Option.{Option, none, some}
use Rattle.bits.specs.Field.{field}
use Rattle.bits.specs.Put.{put_field}
use Rattle.settings.specs.declared.layout.Layout.{Layout}
use Rattle.table.specs.State.{Overflow, overflow_at}
use Rattle.table.specs.Check.{overflow_unused, free_zero}
use Rattle.table.specs.Follow.{further, go_on, is_own, step_at}
use Rattle.table.specs.declared.step.Step.{Step}
use Rattle.table.specs.declared.step.Step.TheVariants.{Last, Further, Damage}

-- what was found, if all is well
abbrev pub found : Bool → List ℕ → Option (List ℕ)
found true m = some m
found false m = none

-- the step of a block that, if it is the last, must pass a test. Damage is here all that a sound table has not
abbrev pub tested : Bool → Step → Step
tested q Last = cond q Last Damage
tested q (Further c) = Further c
tested q Damage = Damage

module _ (g : Layout) where
  -- a block of list i: it has the list's number, and its unused slots are zero
  unfoldable pub list_step : List Overflow → ℕ → ℕ → Step
  list_step os i b = cond (is_own i os b) (tested (overflow_unused g os b) (step_at g os b)) Damage

  -- a block of the free chain: zero but for its link; the last one links to itself
  unfoldable pub chain_step : List Overflow → ℕ → Step
  chain_step os b = cond (free_zero g os b) (cond (eqb (overflow_at os b).link b) Last (further (overflow_at os b).link)) Damage

  -- the marks m once the blocks from b on are marked, at most n of them; none where a block is no block, is marked already or is damaged
  unfoldable pub walk : (ℕ → Step) → ℕ → ℕ → List ℕ → Option (List ℕ)
  walk step zero b m = none
  walk step (suc n) b m =
      let on = go_on (step b) (put_field m b 1 1) (λ c. walk step n c (put_field m b 1 1)) in
      cond (ltb b g.nob) (cond (eqb (field m b 1) 1) none on) none
