-- The entries of a list, block by block.
use Rattle.std.specs.Prelude.{ℕ, zero, suc, min, Bool, true, false, cond, List, [], ◌++◌, take, get_or, ltb}
use Rattle.settings.specs.declared.layout.Layout.{Layout}
use Rattle.table.specs.State.{Overflow, overflow_at, entry_of}
use Rattle.table.specs.Follow.{step_at}
use Rattle.table.specs.Find.{position}
use Rattle.table.specs.Check.{has_entry}
use Rattle.table_read.specs.Steps.{overflow_run}
use Rattle.table_read.specs.declared.slots.Slots.{Slots}
use Rattle.table.specs.declared.step.Step.{Step}
use Rattle.table.specs.declared.step.Step.TheVariants.{Last, Further, Damage}

-- what `from` gives of the block that comes next; nothing, if none does
abbrev pub onward : Step → (ℕ → List ℕ) → List ℕ
onward Last from = []
onward (Further c) from = from c.0
onward Damage from = []

module _ (g : Layout) where
  -- the slots in use in block b, whose counter is c, where they are
  unfoldable pub run_of : ℕ → ℕ → Slots
  run_of b c = overflow_run g b (min c g.sio)

  -- the slots in use in the blocks from b on, at most n of them
  unfoldable pub slots_from : ℕ → List Overflow → ℕ → List ℕ
  slots_from zero os b = []
  slots_from (suc n) os b =
      let on = onward (step_at g os b) (slots_from n os) in
      cond (ltb b g.nob) (take (suc (min (overflow_at os b).counter g.sio)) (overflow_at os b).slots ++ on) []

  -- those in the blocks that a step leads to
  unfoldable pub slots_after : ℕ → List Overflow → Step → List ℕ
  slots_after n os s = onward s (slots_from n os)

  -- the entry of slot j of xs stands neither in the slots before it nor in ys
  unfoldable pub alone : List ℕ → List ℕ → ℕ → Bool
  alone xs ys j =
      cond (ltb (position g (entry_of g (get_or xs j 0)) xs) j) false (cond (has_entry g (entry_of g (get_or xs j 0)) ys) false true)
