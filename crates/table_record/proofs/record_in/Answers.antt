-- Record m of the lists from list i on is record n of all of them.
use mathlib.Core.Path.{◌≡◌, sym, ap, ◌∙◌}
use Prim.Native.Nat.{suc, ◌<◌}
use native.Mathlib.Omega.{arith}
use native.Mathlib.Numerals.{add-one}
use lib.ListN.{length}
use Rattle.std.specs.declared.result.Result.{Result}
use Rattle.std.proofs.lemmas.Result.{err_from_is_err_and}
use Rattle.settings.specs.theory.Proper.{lists_are, bie_is}
use Rattle.table.specs.Decode.{decode}
use Rattle.table.specs.Record.{record_in}
use Rattle.table.specs.theory.Formed.{basics}
use Rattle.table.specs.declared.damage.Damage.{Damage}
use Rattle.table_record.specs.RecordSteps.{on_nth, records_from}
use Rattle.table_record.proofs.Records.{stands, one, records_all, records_none, records_step}
use Rattle.table_record.specs.declared.Nth.{Nth}
use Rattle.table_record.proofs.record_in.Goals as goal
use Rattle.table_record.proofs.record_in.Goals.{After-nth_in}

-- what list i comes to is what all come to
goes : (c : After-nth_in) (r : Result Nth Damage) → c.nth_in.result ≡ r → let a = c.args in
    on_nth a.s c.loop-i.i r (λ m. records_from a.s (decode a.g a.t.now) (suc c.loop-i.i) m) ≡ record_in a.s (decode a.g a.t.now) a.n
goes c r e =
    let g = c.args.g in
    let t = c.args.t.now in
    let h : c.loop-i.i < length (decode g t).basic = omega (arith, basics g t, c.loop-i-test.true) in
    sym (records_step c.args.s (decode g t) g c.requires.laid c.loop-i.i c.loop-i.m h r (sym e ∙ c.nth_in.ensures.0)) ∙ c.loop-i.invariant

pub loop-i-init : goal.loop-i-init
loop-i-init c = records_all _ _ _

pub found-requires : goal.found-requires
found-requires c = (
  c.requires.legal,
  rw (← lists_are c.args.s c.args.g c.requires.laid) c.loop-i-test.true,
  rw (← bie_is c.args.s c.args.g c.requires.laid) (rw c.in-Slot.is at c.in_ok-entry.ensures.1),
)

pub returns-in-Slot : goal.returns-in-Slot
returns-in-Slot c =
    ap one c.found.ensures ∙ goes (goal.at.returns-in-Slot c).After-nth_in _ (c.in_ok-entry.was ∙ ap stands c.in-Slot.is)

pub returns-in_err-entry : goal.returns-in_err-entry
returns-in_err-entry c =
    let p = err_from_is_err_and c.from_residual.result c.from_residual.ensures.1 in
    rw (p.1, p.2) (goes (goal.at.returns-in_err-entry c).After-nth_in _ c.in_err-entry.was)

pub loop-i-preserved : goal.loop-i-preserved
loop-i-preserved c =
    rw (add-one c.loop-i.i) (goes (goal.at.loop-i-preserved c).After-nth_in _ (c.in_ok-entry.was ∙ ap stands c.in-Past.is))

pub returns : goal.returns
returns c =
    let a = c.args in
    sym (records_none a.s (decode a.g a.t.now) c.loop-i.i c.loop-i.m (omega (arith, basics a.g a.t.now, c.loop-i-test.false))) ∙ c.loop-i.invariant
