-- Clause 5.2 of every list: none is damaged.
use Rattle.std.specs.Prelude.{Bool, true, false}
use Rattle.std.proofs.Math.Option.{Option, none, some}
use Rattle.laws.specs.Folds.{every_below}
use Rattle.settings.specs.declared.layout.Layout.{Layout}
use Rattle.table.specs.State.{State}
use Rattle.table.specs.Follow.{Content, content}

-- a list that has an end
abbrev pub has_end : Option Content → Bool
has_end none = false
has_end (some v) = true

unfoldable pub undamaged : Layout → State → Bool
undamaged g st = every_below g.lists (λ i. has_end (content g st i))
