-- The unused slots are one run of bits; the slots in use are tested against each other.
use mathlib.Core.Path.{refl, sym, ap, ap₂, ◌∙◌}
use mathlib.Core.Bool.{Bool, ◌&&◌}
use native.Mathlib.Omega.{arith}
use Rattle.laws.specs.Folds.{every_below}
use Rattle.table.specs.Decode.{decode}
use Rattle.table_read.specs.Steps.{slots_in, basic_run}
use Rattle.table.specs.declared.step.Step.TheVariants.{Last}
use Rattle.table.specs.theory.Changes.{bits_high}
use Rattle.table_read.specs.theory.Reads.{basic_run_within, basic_room}
use Rattle.table_check.specs.Entries.{alone, slots_after}
use Rattle.table_check.proofs.Runs.{short_as}
use Rattle.table_check.proofs.lists.short_sound.Goals as goal

pub zeros_after-requires : goal.zeros_after-requires
zeros_after-requires c =
    let T = c.requires.0 in
    let e = c.basic_slots.ensures in
    let r = basic_room c.args.g c.args.t.now T c.args.i.0 c.requires.1 in
    (c.requires.3, omega (arith, T.room), omega (arith, bits_high c.args.g T.proper))

pub returns-then-not-zeros_after : goal.returns-then-not-zeros_after
returns-then-not-zeros_after c =
    let g = c.args.g in
    let t = c.args.t.now in
    let r = basic_run g c.args.i.0 c.args.n in
    ap (λ (q : Bool). q && every_below r.count (alone g (slots_in g t r) (slots_after g 0 (decode g t).overflow Last))) (sym c.if-not-zeros_after.true ∙ c.zeros_after.ensures)
    ∙ short_as g t c.requires.0 c.args.i.0 c.requires.1 c.basic_slots.result c.args.n r c.basic_slots.ensures c.requires.2 c.requires.3 refl

pub slots_apart-requires : goal.slots_apart-requires
slots_apart-requires c =
    (c.requires.0, rw c.basic_run.ensures (basic_run_within c.args.g c.args.t.now c.requires.0 c.args.i.0 c.args.n c.requires.1 c.requires.3))

pub returns : goal.returns
returns c =
    ap₂ ◌&&◌ (sym c.if-not-zeros_after.false ∙ c.zeros_after.ensures) c.slots_apart.ensures
    ∙ short_as c.args.g c.args.t.now c.requires.0 c.args.i.0 c.requires.1 c.basic_slots.result c.args.n c.basic_run.result
    c.basic_slots.ensures c.requires.2 c.requires.3 c.basic_run.ensures
