-- The first record of the block behind the run, and where there is none, of the next lists.
use Prim.Native.Nat.{◌+◌}
use native.Mathlib.Omega.{arith}
use Rattle.table.specs.Decode.{decode}
use Rattle.table_cursor.specs.Ahead.{pairs_from}
use Rattle.table_cursor.specs.Steps.{pairs_behind}
use Rattle.table_cursor.proofs.Move.{none_behind, reaches_same, reaches_at, behind_block, behind_list}
use Rattle.table_cursor.proofs.walk.moved.Goals as goal

pub returns-in-Further : goal.returns-in-Further
returns-in-Further c =
    let g = c.args.g in
    let t = c.args.t.now in
    let i = c.args.i.0 in
    reaches_at g t (λ s. pairs_behind s g t i c.args.behind) c.enter_block.result c.enter_block.ensures.0.good
    (omega (arith, c.enter_block.ensures.0.passed, c.enter_block.ensures.1))
    (behind_block g t i c.args.behind c.enter_block.result _ c.in-Further.is c.enter_block.ensures.0)

pub returns : goal.returns
returns c =
    let g = c.args.g in
    let t = c.args.t.now in
    let i = c.args.i.0 in
    let none = none_behind g (decode g t).overflow c.args.behind c.in_default.not-Further in
    reaches_same g t (λ s. pairs_behind s g t i c.args.behind) (λ s. pairs_from s t (i + 1))
    (λ s e. behind_list g t i c.args.behind none (i + 1) (omega arith) s) c.next_from.result c.next_from.ensures
