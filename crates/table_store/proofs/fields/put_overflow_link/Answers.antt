-- The link is within the block.
use mathlib.Core.Path.{ap, ◌∙◌}
use Prim.Native.Nat.{ℕ}
use native.Mathlib.Omega.{arith}
use Rattle.bits.specs.Put.{put_field}
use Rattle.table.specs.Decode.{link_at}
use Rattle.table_read.specs.Places.{BlockIn}
use Rattle.table_read.specs.theory.Places.{over_in}
use Rattle.table_store.specs.Stores.{link_put}
use Rattle.table_store.proofs.fields.put_overflow_link.Goals as goal
use Rattle.table_store.proofs.fields.put_overflow_link.Goals.{Start}

-- block j, with its link
block : (s : Start) → BlockIn s.args.t.now s.args.g.overflow s.args.j.0 s.args.g.link
block s = over_in s.args.g s.args.t.now s.requires.0 s.args.g.link (omega arith) s.args.j.0 s.requires.1

pub link_at-requires : goal.link_at-requires
link_at-requires c = let b = (block (goal.at.link_at-requires c).Start).fields in record { near = b.near; fits = omega (arith, b.fits) }

pub put-requires-clause-within : goal.put-requires-clause-within
put-requires-clause-within c =
    let b = block (goal.at.put-requires-clause-within c).Start in
    omega (arith, b.room, b.fields.fits, b.numbers, c.link_at.ensures)

pub returns : goal.returns
unfolding link_put link_at
returns c =
    let a = c.args in
    c.put.ensures ∙ ap (λ (x : ℕ). put_field a.t.now x a.g.link a.l) c.link_at.ensures
