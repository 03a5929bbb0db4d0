-- The displaced bits stand in the link of the list's last block, which following finds.
use mathlib.Core.Path.{sym, ◌∙◌}
use Prim.Native.Nat.{◌≤◌}
use native.Mathlib.Omega.{arith}
use Rattle.table.specs.Decode.{decode}
use Rattle.table_read.specs.Steps.{last_from}
use Rattle.table_read.specs.theory.Lasts.{EndsAt, ends_at, no_end}
use Rattle.table_read.specs.theory.Walks.{one_step, ended_own}
use Rattle.table_cursor.proofs.Longer.{last_within}
use Rattle.table_cursor.proofs.Begin.{begins_long}
use Rattle.table_cursor.proofs.walk.enter_long.Goals as goal
use Rattle.table_cursor.proofs.walk.enter_long.Goals.{In-Ok, In_default}

-- the list's last block
end : (c : In-Ok) → let a = c.args in
    EndsAt a.g (last_from a.g a.i.0 a.g.nob (decode a.g a.t.now).overflow a.first.0) c.in-Ok.last
end c = ends_at _ _ _ (sym c.follow.ensures ∙ c.in-Ok.is)

-- if following finds none, it met damage
no_last : (c : In_default) → let a = c.args in
    a.g.nob ≤ last_from a.g a.i.0 a.g.nob (decode a.g a.t.now).overflow a.first.0
no_last c = no_end _ _ (sym c.follow.ensures ∙ c.in_default.is)

-- there is one, since the list has an end
pub returns-in_default : goal.returns-in_default
returns-in_default c =
    absurd (omega (arith, no_last (goal.at.returns-in_default c).In_default, last_within _ _ _ _ _ c.requires.3))

pub overflow_link-requires : goal.overflow_link-requires
overflow_link-requires c =
    (c.requires.0, omega (arith, (end (goal.at.overflow_link-requires c).In-Ok).low, (one_step _ _ _ _ (ended_own _ _ _ c.requires.3)).low))

pub returns : goal.returns
returns c =
    begins_long c.args.g c.args.t.now c.requires.0 c.args.i c.requires.1 c.args.first _ _
    c.requires.2 c.requires.3 (end (goal.at.returns c).In-Ok).is c.overflow_link.ensures c.displaced_run-run.result c.displaced_run-run.ensures
