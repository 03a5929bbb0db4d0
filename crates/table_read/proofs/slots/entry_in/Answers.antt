-- The entry is the first bits of its slot.
use mathlib.Core.Path.{sym, ap, ◌∙◌}
use Rattle.keys.specs.Key.{key_of}
use Rattle.table_read.specs.theory.Reads.{entry_in}
use Rattle.table_read.proofs.slots.entry_in.Goals as goal

pub returns : goal.returns
returns c =
    c.entry_at.ensures ∙ ap key_of (sym (entry_in c.args.g c.args.t.now c.args.b c.requires.0 c.args.j.0 c.requires.2))
