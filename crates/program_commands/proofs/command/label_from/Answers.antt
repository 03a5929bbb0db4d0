-- The label is the number, but where there is no byte, or a zero before others.
use mathlib.Core.Path.{refl}
use native.Mathlib.Omega.{arith}
use lib.ListN.{length-take, length-drop}
use Rattle.program_commands.proofs.Labels.{number_label, label_past, zero_first, zero_not_first}
use Rattle.program_commands.proofs.command.label_from.Goals as goal

pub returns-in_default : goal.returns-in_default
returns-in_default c = rw (label_past c.args.text.now (omega arith)) refl

pub returns-then-first-rest : goal.returns-then-first-rest
returns-then-first-rest c =
    rw (zero_first c.args.text.now _ _ (simp (length-take, length-drop) (omega arith)) c.if-first-rest.true) refl

pub returns : goal.returns
returns c =
    number_label _ _ c.number.ensures (omega arith) c.requires
    (zero_not_first c.args.text.now _ _ (simp (length-take, length-drop) (omega arith)) c.if-first-rest.false (omega arith))
