-- What find answered decides.
use native.Mathlib.Omega.{arith}
use Rattle.std.specs.Prelude.{Ok}
use Rattle.std.proofs.Common.{rules}
use Rattle.std.proofs.lemmas.Result.{err_from_is_err_and}
use Rattle.table_find.specs.theory.SoughtLaws.{SoughtIn, sought_means}
use Rattle.table_find.specs.theory.Helds.{not_held}
use Rattle.table_delete.proofs.KeyLaws.{other_gives, some_compared, placed, gone_gives, damage_gives}
use Rattle.table_delete.proofs.remove.delete_sought.Goals as goal
use Rattle.table_delete.proofs.remove.delete_sought.Goals.{Start}

-- the key as it was sought
sought : (c : Start) → let a = c.args in SoughtIn a.s a.t.now a.key a.g a.v
sought c =
    let a = c.args in
    sought_means a.s a.t.now a.key a.g a.v c.requires.0 c.requires.1

pub returns-in_err-found : goal.returns-in_err-found
returns-in_err-found c =
    let p = err_from_is_err_and c.from_residual.result c.from_residual.ensures.1 in
    rw (p.1, p.2) (other_gives (sought (goal.at.returns-in_err-found c).Start) _ c.in_err-found.was tt)

pub returns-in_default : goal.returns-in_default
returns-in_default c =
    let r = c.in_ok-found.found in
    other_gives (sought (goal.at.returns-in_default c).Start) (Ok r) c.in_ok-found.was
    (not_held r.word r.label r.compared r.slot c.in_default.not-Held)

pub overflow_sub-found : goal.overflow_sub-found
overflow_sub-found c = omega (arith, some_compared (sought (goal.at.overflow_sub-found c).Start) c.in_ok-found.was c.in-Held.is)

pub remove-requires : goal.remove-requires
remove-requires c =
    let S = sought (goal.at.remove-requires c).Start in
    (S.table, S.list_below, placed S c.in_ok-found.was c.in-Held.is)

pub returns : goal.returns
returns c =
    gone_gives (sought (goal.at.returns c).Start) c.in_ok-found.was c.in-Held.is (λ j. search rules) _ c.remove.ensures c.in_ok-remove.was

pub returns-in_err-remove : goal.returns-in_err-remove
returns-in_err-remove c =
    let p = err_from_is_err_and c.from_residual-in_err-remove.result c.from_residual-in_err-remove.ensures.1 in
    rw (p.1, p.2)
    (damage_gives (sought (goal.at.returns-in_err-remove c).Start) c.in_ok-found.was c.in-Held.is (λ j. search rules) _ c.remove.ensures c.in_err-remove.was)
