-- A step that leads to no block leads to no slots.
use mathlib.Core.Path.{sym, ap, ◌∙◌}
use Rattle.keys.specs.Key.{key_number}
use Rattle.table.specs.Decode.{decode}
use Rattle.table.specs.Check.{has_entry}
use Rattle.table_check.proofs.Doubles.{after_further, after_none}
use Rattle.table_check.proofs.entries.held_after.Goals as goal

pub returns-in_default : goal.returns-in_default
returns-in_default c =
    let a = c.args in
    ap (has_entry a.g (key_number a.entry))
    (sym
    (after_none a.g (decode a.g a.t.now).overflow a.most a.way
    c.in_default.not-Further))

pub returns : goal.returns
returns c =
    let a = c.args in
    c.held_from.ensures
    ∙ ap (has_entry a.g (key_number a.entry))
    (sym (after_further a.g (decode a.g a.t.now).overflow a.most a.way _ c.in-Further.is))
