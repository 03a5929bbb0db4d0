-- The bits in one number, or in two side by side.
use mathlib.Core.Path.{refl}
use native.Mathlib.Omega.{arith}
use Rattle.table_read.specs.theory.Reads.{short_key, long_key}
use Rattle.table_read.proofs.slots.key_at.Goals as goal

pub returns-then-n-le64 : goal.returns-then-n-le64
returns-then-n-le64 c =
    let a = c.args in
    short_key a.t.now a.at a.n (omega arith) _ refl c.get.ensures

pub returns : goal.returns
returns c =
    let a = c.args in
    long_key a.t.now a.at a.n (omega arith) _ c.get-2.ensures c.get-3.ensures
