-- The entry in one number, or in two side by side.
use native.Mathlib.Omega.{arith}
use mathlib.Core.Path.{refl}
use Rattle.table_read.specs.Steps.{restored_bytes}
use Rattle.table_read.specs.theory.Reads.{short_key, long_key}
use Rattle.table_read.proofs.slots.entry_at.Goals as goal

pub returns-then-n-le64 : goal.returns-then-n-le64
returns-then-n-le64 c =
    let a = c.args in
    short_key (restored_bytes a.t.now a.b) a.at a.n (omega arith) _ refl c.restored.ensures

pub returns : goal.returns
returns c =
    let a = c.args in
    long_key (restored_bytes a.t.now a.b) a.at a.n (omega arith) _ c.restored-2.ensures c.restored-3.ensures
