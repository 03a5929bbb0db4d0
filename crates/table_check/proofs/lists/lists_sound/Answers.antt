-- Each turn walks one list; what came before is the walk over the lists before it.
use mathlib.Core.Path.{◌≡◌, ap, ◌∙◌}
use mathlib.Core.Bool.{Bool, true, false}
use Prim.Native.Nat.{◌+◌}
use native.Mathlib.Omega.{arith}
use Rattle.table.specs.Decode.{decode}
use Rattle.table_check.specs.Walk.{found}
use Rattle.table_check.specs.Lists.{lists_walk}
use Rattle.table_check.proofs.ListLaws.{lists_none, lists_next, lists_stop}
use Rattle.table_check.proofs.lists.lists_sound.Goals as goal
use Rattle.table_check.proofs.lists.lists_sound.Goals.{After-list_sound}

turned : (k : After-list_sound) (q : Bool) → k.list_sound.result ≡ q → let s = k.args in
    lists_walk s.g (decode s.g s.t.now) (k.loop-i.i + 1) s.marks.now ≡ found q k.list_sound.new.marks
turned k q e =
    let s = k.args in
    lists_next s.g (decode s.g s.t.now) s.marks.now k.loop-i.i k.loop-i.marks k.loop-i.invariant
    ∙ k.list_sound.ensures
    ∙ ap (λ (r : Bool). found r k.list_sound.new.marks) e

pub loop-i-init : goal.loop-i-init
loop-i-init c = lists_none _ _ _

pub returns-then-not-list_sound : goal.returns-then-not-list_sound
returns-then-not-list_sound c =
    let s = c.args in
    lists_stop s.g (decode s.g s.t.now) s.marks.now (c.loop-i.i + 1) s.g.lists (omega arith)
    (turned (goal.at.returns-then-not-list_sound c).After-list_sound false c.if-not-list_sound.true)

pub loop-i-preserved : goal.loop-i-preserved
loop-i-preserved c = turned (goal.at.loop-i-preserved c).After-list_sound true c.if-not-list_sound.false
