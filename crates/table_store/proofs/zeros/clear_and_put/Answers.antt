-- One store after the other.
use mathlib.Core.Path.{ap, ◌∙◌}
use mathlib.Core.List.{List}
use Prim.Native.Nat.{ℕ}
use Rattle.bits.specs.Put.{put_field}
use Rattle.table_store.proofs.zeros.clear_and_put.Goals as goal

pub returns : goal.returns
returns c =
    let a = c.args in
    c.put.ensures
    ∙ ap (λ (x : List ℕ). put_field x a.at a.k a.v) c.clear.ensures
