-- Both fields are within the block, and together they are one field.
use mathlib.Core.Path.{ap₂, ◌∙◌}
use Prim.Native.Nat.{ℕ, ◌+◌}
use native.Mathlib.Omega.{arith}
use Rattle.bits.specs.Put.{put_field}
use Rattle.table.specs.Decode.{block_at}
use Rattle.table.specs.theory.Written.{join_fits}
use Rattle.table_store.specs.theory.Fronts.{front_put}
use Rattle.table_store.proofs.fields.put_front.Goals as goal

pub put_short-requires : goal.put_short-requires
put_short-requires c =
    let a = c.args in
    (omega arith, omega arith, omega arith, rw c.join-both.ensures (join_fits a.b.counter a.link c.requires.1 c.requires.2))

pub returns : goal.returns
returns c =
    let a = c.args in
    c.put_short.ensures
    ∙ ap₂ (λ (x v : ℕ). put_field a.t.now x (a.b.counter + a.link) v) c.counter_at.ensures c.join-both.ensures
    ∙ front_put a.t.now (block_at a.b a.i) a.b.counter a.link a.n a.l c.requires.2
