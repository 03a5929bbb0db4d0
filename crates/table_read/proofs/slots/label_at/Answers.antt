-- Behind the displaced bits the label is read as it stands.
use mathlib.Core.Path.{◌∙◌}
use native.Mathlib.Omega.{arith}
use Rattle.bits.specs.theory.Fields.{field_fits}
use Rattle.table_read.specs.Steps.{restored_bytes}
use Rattle.table_read.specs.theory.Reads.{restored_bytes_out}
use Rattle.table_read.proofs.slots.label_at.Goals as goal

pub overflow_cast-result : goal.overflow_cast-result
overflow_cast-result c =
    let f = field_fits c.args.t.now c.args.at c.args.val 32 c.requires.1 in
    record { fits = rw c.get.ensures f }

pub returns-then-at-b : goal.returns-then-at-b
returns-then-at-b c =
    c.get.ensures ∙ restored_bytes_out c.args.t.now c.args.b c.args.at c.args.val c.requires.0 (omega arith)

pub overflow_cast-result-2 : goal.overflow_cast-result-2
overflow_cast-result-2 c =
    let f = field_fits (restored_bytes c.args.t.now c.args.b) c.args.at c.args.val 32 c.requires.1 in
    record { fits = rw c.restored.ensures f }
