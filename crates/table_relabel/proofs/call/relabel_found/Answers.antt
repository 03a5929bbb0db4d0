-- What find answered decides.
use native.Mathlib.Omega.{arith}
use lib.Dec.{leb}
use borrow.Author.Tests.{leb-true}
use Rattle.std.specs.Prelude.{Ok}
use Rattle.std.proofs.Common.{rules}
use Rattle.std.proofs.lemmas.Result.{err_from_is_err_and}
use Rattle.laws.specs.Cases.{both_true}
use Rattle.table_find.specs.theory.Helds.{not_held}
use Rattle.table_relabel.proofs.KeyLaws.{Asked, asked, other_gives, some_compared, relabellable, held_gives}
use Rattle.table_relabel.proofs.call.relabel_found.Goals as goal
use Rattle.table_relabel.proofs.call.relabel_found.Goals.{Start}

-- what is asked, for all that follows
given : (c : Start) → let a = c.args in Asked a.s a.t.now a.key a.g a.v a.label
given c =
    let a = c.args in
    asked a.s a.t.now a.key a.g a.v a.label c.requires

pub returns-in_err-found : goal.returns-in_err-found
returns-in_err-found c =
    let p = err_from_is_err_and c.from_residual.result c.from_residual.ensures.1 in
    let G = given (goal.at.returns-in_err-found c).Start in
    rw (p.1, p.2) (other_gives G.sought _ G.low _ c.in_err-found.was tt)

pub returns-in_default : goal.returns-in_default
returns-in_default c =
    let r = c.in_ok-found.found in
    let G = given (goal.at.returns-in_default c).Start in
    other_gives G.sought _ G.low (Ok r) c.in_ok-found.was
    (not_held r.word r.label r.compared r.slot c.in_default.not-Held)

pub overflow_sub-n : goal.overflow_sub-n
overflow_sub-n c = omega (arith, some_compared (given (goal.at.overflow_sub-n c).Start) c.in_ok-found.was c.in-Held.is)

pub relabel_plain-requires : goal.relabel_plain-requires
relabel_plain-requires c =
    let g = c.args.g in
    let n = c.in_ok-found.found.compared in
    let w = both_true (leb n g.sib) (leb g.link g.bie) c.if-n-g.true in
    let r = relabellable (given (goal.at.relabel_plain-requires c).Start) c.in_ok-found.was c.in-Held.is in
    (r, omega (arith, leb-true n g.sib w.0, some_compared (given (goal.at.relabel_plain-requires c).Start) c.in_ok-found.was c.in-Held.is), leb-true g.link g.bie w.1)

pub overflow_sub-n-else-n-g : goal.overflow_sub-n-else-n-g
overflow_sub-n-else-n-g c = omega (arith, some_compared (given (goal.at.overflow_sub-n-else-n-g c).Start) c.in_ok-found.was c.in-Held.is)

pub relabel_place-requires : goal.relabel_place-requires
relabel_place-requires c = relabellable (given (goal.at.relabel_place-requires c).Start) c.in_ok-found.was c.in-Held.is

pub returns-then-n-g : goal.returns-then-n-g
returns-then-n-g c =
    held_gives (given (goal.at.returns-then-n-g c).Start) c.in_ok-found.was c.in-Held.is (λ j. search rules) _ c.relabel_plain.ensures

pub returns-else-n-g : goal.returns-else-n-g
returns-else-n-g c =
    held_gives (given (goal.at.returns-else-n-g c).Start) c.in_ok-found.was c.in-Held.is (λ j. search rules) _ c.relabel_place.ensures
