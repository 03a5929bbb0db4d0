-- The record at the cursor; at the end of a run, the first behind it.
use mathlib.Core.Path.{refl}
use Prim.Native.Nat.{◌<◌}
use native.Mathlib.Omega.{arith}
use Rattle.table_cursor.specs.Ahead.{ahead}
use Rattle.table_cursor.specs.Steps.{pairs_behind, Reaches}
use Rattle.table_cursor.proofs.Move.{gives_same, reaches_same, reaches_at, ahead_behind}
use Rattle.table_cursor.proofs.walk.next.Goals as goal
use Rattle.table_cursor.proofs.walk.next.Goals.{After-moved-d, Joined-d, then-d+else-d-2, else-d}

-- behind the run stands what is ahead
behind : (c : After-moved-d) → Reaches c.args.g c.args.t.now (λ s. ahead s c.args.t.now c.args.c) c.moved-d.result
behind c =
    let g = c.args.g in
    let t = c.args.t.now in
    let d = c.args.c in
    reaches_same g t (λ s. ahead s t d) (λ s. pairs_behind s g t d.list.0 d.behind) (ahead_behind g t d c.if-d.true) c.moved-d.result c.moved-d.ensures

pub returns-then-d-2 : goal.returns-then-d-2
returns-then-d-2 c = (behind (goal.at.returns-then-d-2 c).After-moved-d).none c.if-d-2.true

-- the cursor that is taken at stands at the first record ahead
here : (c : Joined-d) → Reaches c.args.g c.args.t.now (λ s. ahead s c.args.t.now c.args.c) c.if-d.d × (c.if-d.d.passed < c.if-d.d.run.count)
here c =
    let g = c.args.g in
    let t = c.args.t.now in
    let d = c.args.c in
    elim c.if-d.branch [
      | then-d+else-d-2 w ↦ (
        rw w.d-is (reaches_same g t (λ s. ahead s t d) (λ s. pairs_behind s g t d.list.0 d.behind) (ahead_behind g t d w.if-d.true) w.moved-d.result w.moved-d.ensures),
        rw w.d-is (omega (arith, w.if-d-2.false)),
      )
      | else-d w ↦ (rw w.d-is (reaches_at g t (λ s. ahead s t d) d c.requires.2 (omega (arith, w.if-d.false)) (λ s e. refl)), rw w.d-is (omega (arith, w.if-d.false)))
    ]

pub returns : goal.returns
returns c =
    let h = here (goal.at.returns c).Joined-d in
    let t = c.args.t.now in
    gives_same c.args.g t (λ s. ahead s t c.args.c) (λ s. ahead s t c.if-d.d) (h.0.are h.1) c.taken.result c.taken.ensures
