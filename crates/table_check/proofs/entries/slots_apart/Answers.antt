-- Every slot passed has an entry of its own.
use mathlib.Core.Path.{◌≡◌, refl, sym, ap, ◌∙◌}
use Prim.Native.Nat.{◌+◌, ◌*◌, ◌^◌, ◌<◌}
use native.Mathlib.Omega.{arith}
use lib.ListN.{get_or}
use borrow.Author.Count.{below_more}
use Rattle.laws.specs.Tests.{below_all, below_not}
use Rattle.bits.specs.Field.{field}
use Rattle.bits.specs.theory.Fields.{field_lt}
use Rattle.keys.specs.Key.{key_number}
use Rattle.keys.specs.theory.Keys.{number_key}
use Rattle.table.specs.State.{entry_of}
use Rattle.table.specs.Decode.{decode}
use Rattle.table_read.specs.Steps.{restored_bytes, First, slots_in}
use Rattle.table_read.specs.theory.Rows.{fewer}
use Rattle.table_read.specs.theory.Scans.{run_row}
use Rattle.table_check.specs.Entries.{alone, slots_after}
use Rattle.table_check.proofs.Runs.{entry_is, met_before, none_before, alone_before, alone_behind, alone_yes}
use Rattle.table_check.proofs.entries.slots_apart.Goals as goal
use Rattle.table_check.proofs.entries.slots_apart.Goals.{After-next_entry-entry, After-scan_run}

-- the entry that was read is that of slot j
entry : (c : After-next_entry-entry) → key_number c.next_entry-entry.result ≡ entry_of c.args.g (get_or (slots_in c.args.g c.args.t.now c.args.b) c.loop-j.j 0)
entry c =
    ap key_number c.next_entry-entry.ensures
    ∙ number_key _
    ∙ entry_is c.args.g c.requires.0.proper c.args.t.now c.args.b c.requires.1 c.loop-j.j _ (omega arith) refl

small : (c : After-next_entry-entry) → key_number c.next_entry-entry.result < 2 ^ c.args.g.bie
small c =
    let x = field (restored_bytes c.args.t.now c.args.b) (c.args.b.start + c.loop-j.j * c.args.g.slot) c.args.g.bie in
    rw (c.next_entry-entry.ensures, number_key x) (field_lt _ _ _)

-- the first j slots were looked through for it
looked : (c : After-scan_run) → First (restored_bytes c.args.t.now c.args.b) c.args.b.start c.args.g.slot c.args.g.bie (key_number c.next_entry-entry.result) c.loop-j.j
    c.scan_run.result.0
looked c = c.scan_run.ensures

pub scan_run-requires-clause-row : goal.scan_run-requires-clause-row
scan_run-requires-clause-row c =
    (fewer _ _ _ _ _ (run_row c.args.g c.requires.0.proper c.args.t.now c.args.b c.requires.1) c.loop-j.j (omega arith), small (goal.at.scan_run-requires-clause-row c).After-next_entry-entry)

pub returns-then-scan_run-j : goal.returns-then-scan_run-j
returns-then-scan_run-j c =
    sym
    (below_not c.args.b.count (alone c.args.g (slots_in c.args.g c.args.t.now c.args.b) (slots_after c.args.g c.args.most (decode c.args.g c.args.t.now).overflow c.args.way)) c.loop-j.j (omega arith)
    (alone_before c.args.g (slots_in c.args.g c.args.t.now c.args.b) (slots_after c.args.g c.args.most (decode c.args.g c.args.t.now).overflow c.args.way) c.loop-j.j (key_number c.next_entry-entry.result) (entry (goal.at.returns-then-scan_run-j c).After-next_entry-entry)
    (met_before c.args.g c.requires.0.proper c.args.t.now c.args.b c.requires.1 (key_number c.next_entry-entry.result) c.loop-j.j c.scan_run.result.0
    (omega arith) (looked (goal.at.returns-then-scan_run-j c).After-scan_run) (omega (arith, c.if-scan_run-j.true)))))

pub held_after-requires : goal.held_after-requires
held_after-requires c =
    (c.requires.0, small (goal.at.held_after-requires c).After-next_entry-entry)

pub returns-then-held_after : goal.returns-then-held_after
returns-then-held_after c =
    sym
    (below_not c.args.b.count (alone c.args.g (slots_in c.args.g c.args.t.now c.args.b) (slots_after c.args.g c.args.most (decode c.args.g c.args.t.now).overflow c.args.way)) c.loop-j.j (omega arith)
    (alone_behind c.args.g (slots_in c.args.g c.args.t.now c.args.b) (slots_after c.args.g c.args.most (decode c.args.g c.args.t.now).overflow c.args.way) c.loop-j.j (key_number c.next_entry-entry.result) (entry (goal.at.returns-then-held_after c).After-next_entry-entry) (sym c.held_after.ensures ∙ c.if-held_after.true)))

pub loop-j-preserved : goal.loop-j-preserved
loop-j-preserved c =
    below_more _ _ c.loop-j.invariant
    (alone_yes c.args.g (slots_in c.args.g c.args.t.now c.args.b) (slots_after c.args.g c.args.most (decode c.args.g c.args.t.now).overflow c.args.way) c.loop-j.j (key_number c.next_entry-entry.result) (entry (goal.at.loop-j-preserved c).After-next_entry-entry)
    (none_before c.args.g c.requires.0.proper c.args.t.now c.args.b c.requires.1 (key_number c.next_entry-entry.result) c.loop-j.j c.scan_run.result.0
    (omega arith) (looked (goal.at.loop-j-preserved c).After-scan_run) (omega (arith, c.if-scan_run-j.false)))
    (sym c.held_after.ensures ∙ c.if-held_after.false))

pub returns : goal.returns
returns c =
    sym (below_all c.args.b.count (alone c.args.g (slots_in c.args.g c.args.t.now c.args.b) (slots_after c.args.g c.args.most (decode c.args.g c.args.t.now).overflow c.args.way)) (λ k h. c.loop-j.invariant k (omega arith)))
