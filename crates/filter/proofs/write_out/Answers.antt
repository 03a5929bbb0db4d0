-- The first `done` bytes have been taken.
use Rattle.std.proofs.Common.{ℕ, ◌-◌, ◌≤◌, List, take, length, length-take, length-drop, false, arith}
use Rattle.filter.specs.World.{Takes, Wrote, erred}
use Rattle.filter.proofs.Moves.{takes_more}
use Rattle.filter.proofs.write_out.Goals as goal
use Rattle.filter.proofs.write_out.Goals.{in-Ok, in-Err+else-ne}

-- not all of them, since there was an error
short : (n : ℕ) (buf : List ℕ) → Takes (take n buf) → Wrote buf false
short n buf t = record { much = n; takes = t; whole = λ f. cc; errs = λ _. erred }

pub returns-in-Ok-eq0 : goal.returns-in-Ok-eq0
returns-in-Ok-eq0 c = short c.loop.done _ c.loop.invariant.takes

pub returns-then-ne : goal.returns-then-ne
returns-then-ne c = short c.loop.done _ c.loop.invariant.takes

pub loop-preserved : goal.loop-preserved
loop-preserved c =
    let s = c.args.buf.now in
    let done = c.loop.done in
    elim c.match-write_once.branch [
      | in-Ok w ↦
          let h : w.in-Ok.n ≤ length s - done = omega (arith, simp (length-take, length-drop) at w.in-Ok.ensures.0) in
          rw w.done-is (record { within = omega (arith, h, c.if-done-buf.false); takes = takes_more s done w.in-Ok.n (length s - done) c.loop.invariant.takes h w.in-Ok.ensures.1 })
      | in-Err+else-ne w ↦ rw w.done-is c.loop.invariant
    ]

pub returns : goal.returns
returns c = short c.loop.done _ c.loop.invariant.takes
