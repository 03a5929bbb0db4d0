-- A run that ends before the entry is passed, and its count is taken off the entries that are to pass yet.
use Prim.Native.Nat.{◌≤◌}
use native.Mathlib.Omega.{arith}
use Rattle.table.specs.Decode.{decode}
use Rattle.table_cursor.proofs.Move.{none_behind}
use Rattle.table_cursor.proofs.Toward.{toward_block, toward_here, run_last}
use Rattle.table_cursor.proofs.walk.at_long.Goals as goal
use Rattle.table_cursor.proofs.walk.at_long.Goals.{Left-loop-c, else-loop-c-test, then-loop-c-test+in_default}

pub loop-c-preserved : goal.loop-c-preserved
loop-c-preserved c =
    toward_block c.args.g c.args.t.now c.args.i c.args.n c.loop-c.c c.loop-c.left c.loop-c.invariant c.loop-c-test.true _ c.in-Further.is
    c.enter_block-c.result c.enter_block-c.ensures.0

-- the run reaches to the entry, or it is the list's last, and reaches there too
reached : (c : Left-loop-c) → c.loop-c.left ≤ c.loop-c.c.run.count
reached c =
    let g = c.args.g in
    let t = c.args.t.now in
    elim c.loop-c-test.branch [
      | else-loop-c-test w ↦ omega (arith, w.loop-c-test.false)
      | then-loop-c-test+in_default w ↦
          run_last g t c.args.i c.args.n c.loop-c.c c.loop-c.left c.loop-c.invariant
          (none_behind g (decode g t).overflow c.loop-c.c.behind w.in_default.not-Further)
    ]

pub returns : goal.returns
returns c =
    toward_here c.args.g c.args.t.now c.args.i c.args.n c.loop-c.c c.loop-c.left c.loop-c.invariant (reached (goal.at.returns c).Left-loop-c) c.requires.1 c.requires.4 _ (omega arith)
