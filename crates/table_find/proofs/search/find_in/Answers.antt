-- The counter decides: the basic block's slots are all, the list goes on, or it is damaged.
use mathlib.Core.Path.{refl, ◌∙◌}
use native.Mathlib.Omega.{arith}
use Rattle.keys.specs.Key.{key_number}
use Rattle.table_read.specs.Steps.{basic_run}
use Rattle.table_read.specs.theory.Finds.{find_counted, find_high}
use Rattle.table_find.proofs.search.find_in.Goals as goal

pub returns-then-front-g : goal.returns-then-front-g
returns-then-front-g c =
    c.find_short.ensures
    ∙ find_counted c.args.g c.args.t.now c.requires.0 c.args.i.0 (key_number c.args.entry) c.requires.1
    c.basic_front-front.result.counter (basic_run c.args.g c.args.i.0 c.basic_front-front.result.counter) c.basic_front-front.ensures.0 (omega arith) refl

pub returns-then-front-g-2 : goal.returns-then-front-g-2
returns-then-front-g-2 c =
    find_high c.args.g c.args.t.now c.requires.0 c.args.i.0 (key_number c.args.entry) c.requires.1
    c.basic_front-front.result.counter c.basic_front-front.ensures.0 (omega arith)

pub find_long-requires : goal.find_long-requires
find_long-requires c =
    (c.requires.0, c.requires.1, record { counter = omega (arith, c.basic_front-front.ensures.0, c.if-front-g-2.false, c.if-front-g.false); head = c.basic_front-front.ensures.1 }, c.requires.2)
