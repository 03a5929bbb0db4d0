-- The counter is the first bits of the field that was read, the owner its last, and the link stands between them.
use mathlib.Core.Path.{◌≡◌, ap₂, ◌∙◌}
use Prim.Native.Nat.{ℕ, ◌+◌, ◌/◌, ◌%◌}
use native.Mathlib.Omega.{arith}
use Rattle.bits.specs.Field.{field}
use Rattle.bits.specs.theory.Fields.{first_field, last_field}
use Rattle.table.specs.Decode.{block_at}
use Rattle.table_read.specs.Places.{BlockIn}
use Rattle.table_read.specs.theory.Places.{over_in}
use Rattle.table_read.specs.theory.Reads.{overflow_counter_field, link_field, owner_field}
use Rattle.table_read.proofs.blocks.owned_front.Goals as goal
use Rattle.table_read.proofs.blocks.owned_front.Goals.{After-get_short-all, Start}

block : (s : Start) → BlockIn s.args.t.now s.args.g.overflow s.args.j.0 (s.args.g.link + s.args.g.owner)
block s = over_in s.args.g s.args.t.now s.requires.0 (s.args.g.link + s.args.g.owner) (omega arith) s.args.j.0 s.requires.1

pub counter_at-requires : goal.counter_at-requires
counter_at-requires c =
    let f = (block (goal.at.counter_at-requires c).Start).fields in
    record { near = f.near; fits = omega arith }

pub get_short-all-requires : goal.get_short-all-requires
get_short-all-requires c =
    let b = block (goal.at.get_short-all-requires c).Start in
    omega (arith, c.counter_at.ensures, b.fields.fits, b.room, b.some, b.short, b.numbers)

-- all three fields as one
all : (c : After-get_short-all) → let g = c.args.g in
    c.get_short-all.result ≡ field c.args.t.now (block_at g.overflow c.args.j.0) (g.overflow.counter + g.link + g.owner)
all c =
    let s = c.args in
    let g = s.g in
    let e : g.overflow.counter + (g.link + g.owner) ≡ g.overflow.counter + g.link + g.owner = omega arith in
    c.get_short-all.ensures
    ∙ ap₂ (λ (x n : ℕ). field s.t.now x n) c.counter_at.ensures e

pub returns : goal.returns
returns c =
    let g = c.args.g in
    let t = c.args.t.now in
    let at = block_at g.overflow c.args.j.0 in
    let both = ap₂ (λ (x y : ℕ). x / y) (all (goal.at.returns c).After-get_short-all) c.pow-owner.ensures ∙ first_field t at (g.overflow.counter + g.link) g.owner in (
      ap₂ (λ (x y : ℕ). x / y) both c.pow-link.ensures ∙ first_field t at g.overflow.counter g.link ∙ overflow_counter_field g t c.requires.0 c.args.j.0 c.requires.1,
      ap₂ (λ (x y : ℕ). x % y) both c.pow-link.ensures ∙ last_field t at g.overflow.counter g.link ∙ link_field g t c.requires.0 c.args.j.0 c.requires.1,
      ap₂ (λ (x y : ℕ). x % y) (all (goal.at.returns c).After-get_short-all) c.pow-owner.ensures ∙ last_field t at (g.overflow.counter + g.link) g.owner ∙ owner_field g t c.requires.0 c.args.j.0 c.requires.1,
    )
