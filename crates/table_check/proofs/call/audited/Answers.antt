-- Clear marks before, and clear marks after.
use mathlib.Core.Path.{◌≡◌, ap, ◌∙◌}
use mathlib.Core.List.{List}
use Prim.Native.Nat.{ℕ}
use native.Mathlib.Omega.{arith}
use lib.ListN.{length}
use Rattle.bits.specs.Field.{field}
use Rattle.bits.specs.theory.Fields.{zero_field}
use Rattle.table_check.proofs.call.audited.Goals as goal

pub sound-answer-requires : goal.sound-answer-requires
sound-answer-requires c =
    let l : length c.zero_bytes.new.s ≡ length c.args.marks.now = c.zero_bytes.auto.s in
    (c.requires.0, c.requires.1, omega (arith, c.requires.2), λ j h. ap (λ (m : List ℕ). field m j 1) c.zero_bytes.ensures ∙ zero_field (length c.args.marks.now) j 1)
