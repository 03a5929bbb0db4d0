-- The field lies behind the displaced bits, in them, or across their end: a law for each.
use mathlib.Core.Path.{◌≡◌, ap₂, ◌∙◌}
use Prim.Native.Nat.{ℕ, ◌+◌, ◌-◌, ◌*◌, ◌^◌}
use native.Mathlib.Omega.{arith}
use Rattle.bits.specs.Field.{field}
use Rattle.bits.specs.theory.Fields.{field_fits}
use Rattle.table_read.specs.Steps.{restored_bytes}
use Rattle.table_read.specs.theory.Reads.{restored_bytes_out, restored_bytes_in, restored_bytes_across}
use Rattle.table_read.proofs.slots.restored.Goals as goal
use Rattle.table_read.proofs.slots.restored.Goals.{After-get-2}

pub returns-then-at-end : goal.returns-then-at-end
returns-then-at-end c =
    c.get.ensures ∙ restored_bytes_out c.args.t.now c.args.b c.args.at c.args.n c.requires.0 (omega arith)

pub returns-then-at-n : goal.returns-then-at-n
returns-then-at-n c =
    c.bits_above.ensures ∙ restored_bytes_in c.args.t.now c.args.b c.args.at c.args.n c.requires.0 (omega arith)

-- the two parts of a field across the end
across : (c : After-get-2) → (let s = c.args in
    c.bits_above-2.result * 2 ^ (s.n - (s.b.start + s.b.displaced - s.at)) + c.get-2.result ≡ field (restored_bytes s.t.now s.b) s.at s.n)
across c =
    let k : ℕ = c.args.b.start + c.args.b.displaced - c.args.at in
    ap₂ (λ (x y : ℕ). x * 2 ^ (c.args.n - k) + y) c.bits_above-2.ensures c.get-2.ensures
    ∙ restored_bytes_across c.args.t.now c.args.b c.args.at c.args.n k (c.args.n - k) c.requires.0 (omega arith) (omega arith)

pub join-requires : goal.join-requires
join-requires c =
    let s = c.args in
    let f = field_fits (restored_bytes s.t.now s.b) s.at s.n 64 (omega arith) in
    (omega arith, rw (across (goal.at.join-requires c).After-get-2) f)

pub returns : goal.returns
returns c = c.join.ensures ∙ across (goal.at.returns c).After-get-2
