-- By the basic block's counter.
use Prim.Native.Nat.{◌≤◌}
use native.Mathlib.Omega.{arith}
use Rattle.table.specs.State.{basic_at}
use Rattle.table.specs.Decode.{decode}
use Rattle.table_store.specs.theory.PlaceLaws.{short_place}
use Rattle.table_delete.proofs.remove.remove.Goals as goal

pub remove_short-requires : goal.remove_short-requires
remove_short-requires c =
    let a = c.args in
    let h : (basic_at (decode a.g a.t.now).basic a.i.0).counter ≤ a.g.sib = omega (arith, c.basic_counter-c.ensures, c.if-c-g.true) in
    let q = short_place a.g (decode a.g a.t.now) a.i.0 a.p c.requires.2 h in
    (c.requires.0, c.requires.1, c.requires.2, c.basic_counter-c.ensures, c.if-c-g.true, omega (arith, c.basic_counter-c.ensures, q))
