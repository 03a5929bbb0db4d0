-- The table's rule is a test at each of its 256 entries, which is computed.
use Prim.Native.Nat.{ℕ, ◌<◌}
use borrow.Author.Rules.{rules}
use mathlib.Core.Path.{◌≡◌, ap, ◌∙◌}
use lib.Dec.{lit≤}
use lib.ListN.{get_or}
use Rattle.text_read.specs.Class.{class_of}
use Rattle.text_read.specs.declared.class.TheConstants.{CLASSES}
use Rattle.text_read.proofs.Table.{right, class_right}
use Rattle.text_read.proofs.class.class.Goals as goal

table : (b : ℕ) → b < 256 → get_or CLASSES b 0 ≡ class_of b
unfolding right class_of
table = class_right CLASSES (lit≤ tt) tt

pub returns : goal.returns
returns c = c.from-2.ensures ∙ ap (λ (i : ℕ). get_or CLASSES i 0) c.from.ensures ∙ table c.args.byte (search rules)
