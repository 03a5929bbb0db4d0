-- The halves of eight groups are the key.
use mathlib.Core.Path.{◌∙◌, sym}
use Rattle.text_read.proofs.Joined.{eight_key}
use Rattle.text_read.proofs.groups.Groups.eight.Goals as goal

pub returns-then-self-eq8 : goal.returns-then-self-eq8
returns-then-self-eq8 c = c.found.ensures ∙ sym (eight_key _ _ c.self.view_is c.self.invariant c.if-self-eq8.true)
