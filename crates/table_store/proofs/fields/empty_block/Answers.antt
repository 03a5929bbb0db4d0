-- Link and owner are within the block, and stored behind the zeros, as one field.
use mathlib.Core.Path.{ap, ap₂, ◌∙◌}
use Prim.Native.Nat.{ℕ, ◌+◌, ◌^◌, ◌<◌}
use native.Mathlib.Omega.{arith}
use Rattle.bits.specs.Put.{put_field}
use Rattle.table.specs.Decode.{link_at}
use Rattle.table.specs.theory.Written.{join_fits}
use Rattle.table_read.specs.Places.{BlockIn}
use Rattle.table_read.specs.theory.Places.{over_in}
use Rattle.table_store.specs.Stores.{emptied}
use Rattle.table_store.specs.theory.Fronts.{stored_emptied}
use Rattle.table_store.proofs.fields.empty_block.Goals as goal
use Rattle.table_store.proofs.fields.empty_block.Goals.{Start}

-- block j, with its link and its owner
block : (s : Start) → BlockIn s.args.t.now s.args.g.overflow s.args.j.0 (s.args.g.link + s.args.g.owner)
block s = over_in s.args.g s.args.t.now s.requires.0 _ (omega arith) s.args.j.0 s.requires.1

-- a list's number fits in the owner's bits
owner_fits : (s : Start) → s.args.i.0 < 2 ^ s.args.g.owner
owner_fits s = omega (arith, s.requires.3, s.requires.0.proper.owner_holds)

pub counter_at-requires : goal.counter_at-requires
counter_at-requires c = let b = (block (goal.at.counter_at-requires c).Start).fields in record { near = b.near; fits = omega (arith, b.fits) }

pub link_at-requires : goal.link_at-requires
link_at-requires c = let b = (block (goal.at.link_at-requires c).Start).fields in record { near = b.near; fits = omega (arith, b.fits) }

pub clear_and_put-requires : goal.clear_and_put-requires
clear_and_put-requires c =
    let a = c.args in
    let b = block (goal.at.clear_and_put-requires c).Start in
    let e = c.counter_at.ensures in (
      omega (arith, b.room, e),
      omega (arith, b.fields.near, e),
      omega (arith, b.room, b.fields.fits, b.numbers, c.link_at.ensures),
      omega (arith, c.join-both.ensures, join_fits a.g.link a.g.owner c.requires.2 (owner_fits (goal.at.clear_and_put-requires c).Start)),
    )

pub returns : goal.returns
unfolding emptied link_at
returns c =
    let a = c.args in
    let z : ℕ → ℕ → ℕ → _ = λ x y v. put_field (put_field a.t.now x a.g.overflow.bits 0) y (a.g.link + a.g.owner) v in
    stored_emptied a.g a.t.now c.requires.0 _ a.j.0 a.l a.i.0 c.requires.1 c.requires.2 (owner_fits (goal.at.returns c).Start)
    (c.clear_and_put.ensures
    ∙ ap₂ (λ (x y : ℕ). z x y c.join-both.result) c.counter_at.ensures c.link_at.ensures
    ∙ ap (z _ _) c.join-both.ensures)
