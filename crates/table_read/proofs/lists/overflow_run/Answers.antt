-- Each field is the one that the definition has.
use mathlib.Core.Path.{ap, ◌∙◌}
use Prim.Native.Nat.{ℕ, min}
use native.Mathlib.Numerals.{add-one}
use Rattle.table_read.specs.Steps.{overflow_run}
use Rattle.table_read.proofs.lists.overflow_run.Goals as goal

pub returns : goal.returns
unfolding overflow_run
returns c =
    let a = c.args in
    let n = c.min.ensures ∙ ap (λ (x : ℕ). min x a.g.sio) (add-one a.c) in
    λ i. record { start = c.overflow_slots.ensures i; count = n i; displaced = 0; value = 0 }
