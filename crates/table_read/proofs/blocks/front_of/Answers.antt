-- The counter is the first bits of the field that was read, and the link its last bits.
use mathlib.Core.Path.{◌≡◌, ap, ap₂, ◌∙◌}
use Prim.Native.Nat.{ℕ, ◌+◌, ◌/◌, ◌%◌}
use Rattle.bits.specs.Field.{field}
use Rattle.bits.specs.theory.Fields.{first_field, last_field}
use Rattle.table.specs.Decode.{block_at}
use Rattle.table_read.proofs.blocks.front_of.Goals as goal
use Rattle.table_read.proofs.blocks.front_of.Goals.{After-get_short-both}

-- both fields as one
both : (c : After-get_short-both) → let s = c.args in c.get_short-both.result ≡ field s.t.now (block_at s.b s.i) (s.b.counter + s.link)
both c =
    let s = c.args in
    c.get_short-both.ensures ∙ ap (λ (x : ℕ). field s.t.now x (s.b.counter + s.link)) c.counter_at.ensures

pub returns : goal.returns
returns c =
    let s = c.args in
    let at = block_at s.b s.i in
    let e = ap₂ (λ (x y : ℕ). x / y) (both (goal.at.returns c).After-get_short-both) c.pow-all.ensures in
    let f = ap₂ (λ (x y : ℕ). x % y) (both (goal.at.returns c).After-get_short-both) c.pow-all.ensures in
    (e ∙ first_field s.t.now at s.b.counter s.link, f ∙ last_field s.t.now at s.b.counter s.link)
