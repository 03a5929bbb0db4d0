-- A field of at most 32 bits is a label.
use mathlib.Core.Path.{ap}
use Prim.Native.Nat.{ℕ}
use Rattle.bits.specs.theory.Fields.{field_fits}
use Rattle.table.specs.Answer.{said}
use Rattle.table.specs.declared.answers.Word.TheVariants as word
use Rattle.table_find.proofs.search.held.Goals as goal

pub overflow_cast-result : goal.overflow_cast-result
overflow_cast-result c =
    record { fits = rw c.get.ensures (field_fits c.args.t.now c.args.at c.args.val 32 c.requires.1) }

pub returns : goal.returns
returns c = ap (λ (x : ℕ). said word.Held x c.args.n c.args.slot) c.get.ensures
