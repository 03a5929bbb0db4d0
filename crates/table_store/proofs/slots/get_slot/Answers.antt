-- The key that is read, as a number.
use mathlib.Core.Path.{ap, ◌∙◌}
use Prim.Native.Nat.{◌+◌}
use Rattle.bits.specs.theory.Fields.{field_fits}
use Rattle.keys.specs.Key.{key_number}
use Rattle.keys.specs.theory.Keys.{number_key}
use Rattle.table_store.proofs.slots.get_slot.Goals as goal

pub overflow_cast-label : goal.overflow_cast-label
overflow_cast-label c =
    record { fits = rw c.get-label.ensures (field_fits c.args.t.now (c.args.at + c.args.bie) c.args.val 32 c.requires.3) }

pub returns : goal.returns
returns c = (ap key_number c.key_at.ensures ∙ number_key _, c.get-label.ensures)
