-- By the last block's counter, and by whether a block stands before it.
use mathlib.Core.Path.{refl, sym, ap, subst}
use mathlib.Core.List.{List}
use Prim.Native.Nat.{ℕ, ◌-◌, ◌^◌, ◌<◌, ◌≤◌}
use native.Mathlib.Omega.{arith}
use borrow.Author.Rules.{rules}
use Rattle.table.specs.State.{State, overflow_at}
use Rattle.table.specs.Decode.{decode}
use Rattle.table.specs.Delete.{handed_back}
use Rattle.table_read.specs.theory.Reads.{link_lt}
use Rattle.table.specs.theory.FormedCalls.{handed_free}
use Rattle.table_delete.proofs.DeleteLaws.{free_low, stored_further, stored_back, stored_kept, stored_freed}
use Rattle.table.specs.Table.{Within}
use Rattle.table_store.specs.Stores.{Stored}
use Rattle.table_delete.proofs.shrink.shrink.Goals as goal
use Rattle.table_delete.proofs.shrink.shrink.Goals.{After-overflow_link-link, Else-n-gt0, Joined-before, in-Basic, in-Block}

pub returns-then-n-gt0 : goal.returns-then-n-gt0
returns-then-n-gt0 c =
    let a = c.args in
    let st = decode a.g a.t.now in
    let h : 0 < (overflow_at (decode a.g a.t.now).overflow a.last.0).counter = omega (arith, c.requires.3, c.if-n-gt0.true) in
    stored_kept a.i.0 a.last.0 a.before h c.drop_last_slot.ensures

-- the last block has one slot only
emptied : (c : Else-n-gt0) → let a = c.args in (overflow_at (decode a.g a.t.now).overflow a.last.0).counter ≤ 0
emptied c = omega (arith, c.requires.3, c.if-n-gt0.false)

-- the link that was read fits
fits : (c : After-overflow_link-link) → c.overflow_link-link.result < 2 ^ c.args.g.link
fits c =
    rw c.overflow_link-link.ensures (link_lt c.args.g c.args.t.now c.requires.0 _ (omega (arith, c.requires.2.low)))

pub put_basic_front-requires : goal.put_basic_front-requires
put_basic_front-requires c =
    (c.requires.0, c.requires.1, omega arith, omega (arith, fits (goal.at.put_basic_front-requires c).After-overflow_link-link, c.requires.2.low, c.requires.0.proper.link_holds))

pub put_overflow_front-requires : goal.put_overflow_front-requires
put_overflow_front-requires c =
    (c.requires.0, subst (Within c.args.g) c.in-Block.is c.requires.4, omega arith, omega (arith, fits (goal.at.put_overflow_front-requires c).After-overflow_link-link, c.requires.2.low, c.requires.0.proper.link_holds))

-- where the two ways meet, the displaced bits are handed on
met : (c : Joined-before) → let a = c.args in Stored a.g a.t.now c.match-before.t (handed_back a.g a.i.0 a.last.0 a.before (decode a.g a.t.now))
met c =
    let a = c.args in
    let l = c.overflow_link-link in
    let at : List ℕ → Type 0 = λ u. Stored a.g a.t.now u (handed_back a.g a.i.0 a.last.0 a.before (decode a.g a.t.now)) in
    elim c.match-before.branch [
      | in-Basic w ↦ subst at (sym w.t-is) (stored_back a.i.0 a.last.0 a.before l.result w.in-Basic.is l.ensures w.put_basic_front.ensures)
      | in-Block w ↦ subst at (sym w.t-is) (stored_further a.i.0 a.last.0 a.before w.in-Block.p (a.g.sio - 1) l.result w.in-Block.is refl l.ensures w.put_overflow_front.ensures)
    ]

pub free_block-requires : goal.free_block-requires
free_block-requires c =
    let a = c.args in
    let st = decode a.g a.t.now in
    let m = met (goal.at.free_block-requires c).Joined-before in
    let f = free_low a.g st a.i.0 a.last.0 c.requires.2 (emptied (goal.at.free_block-requires c).Else-n-gt0) in
    let h : (decode a.g c.match-before.t).free ≤ a.g.nob = omega (arith, f, ap (λ (u : State). u.free) m.state, handed_free a.g st a.i.0 a.last.0 a.before) in
    search rules

pub returns : goal.returns
returns c =
    let a = c.args in
    stored_freed a.i.0 a.last.0 a.before (emptied (goal.at.returns c).Else-n-gt0) (met (goal.at.returns c).Joined-before) c.free_block.ensures
