-- The basic block's slots, with the displaced bits put back, and then the blocks.
use mathlib.Core.Path.{◌≡◌, refl, sym, ap, ap₂, ◌∙◌}
use mathlib.Core.Bool.{Bool, ◌&&◌}
use native.Mathlib.Omega.{arith}
use Rattle.table.specs.State.{basic_at}
use Rattle.table.specs.Decode.{decode}
use Rattle.table.specs.Check.{no_entry_twice}
use Rattle.table_read.specs.theory.Lasts.{ends_at, no_end}
use Rattle.table_read.specs.theory.Reads.{displaced_run_within, head_lt, link_lt}
use Rattle.table_check.specs.Entries.{slots_from}
use Rattle.table_check.specs.Lists.{long_apart}
use Rattle.table_check.proofs.Runs.{long_as, long_damaged}
use Rattle.table_check.proofs.lists.long_apart.Goals as goal
use Rattle.table_check.proofs.lists.long_apart.Goals.{After-slots_apart}

pub returns-in_default : goal.returns-in_default
returns-in_default c =
    sym (long_damaged c.args.g c.args.t.now c.requires.0 c.args.i.0 c.requires.1 c.basic_head.result _ c.basic_head.ensures refl
    (no_end c.args.g _ (sym c.follow.ensures ∙ c.in_default.is)))

pub overflow_link-requires : goal.overflow_link-requires
overflow_link-requires c = (c.requires.0, (ends_at _ _ _ (sym c.follow.ensures ∙ c.in-Ok.is)).low)

pub slots_apart-requires : goal.slots_apart-requires
slots_apart-requires c =
    let T = c.requires.0 in
    let h = c.basic_head.ensures in
    let f = link_lt c.args.g c.args.t.now T c.in-Ok.last.0 (ends_at _ _ _ (sym c.follow.ensures ∙ c.in-Ok.is)).low in (
      T,
      rw c.displaced_run-run.ensures
          (displaced_run_within c.args.g c.args.t.now T c.args.i.0 _ c.requires.1
          (omega (arith, c.overflow_link.ensures, f, h, head_lt c.args.g c.args.t.now T c.args.i.0 c.requires.1))),
    )

-- the slots of the basic block, and then those of the blocks
both : (k : After-slots_apart) → (k.slots_apart.result && no_entry_twice k.args.g (slots_from k.args.g k.args.g.nob (decode k.args.g k.args.t.now).overflow k.basic_head.result))
    ≡ long_apart k.args.g (decode k.args.g k.args.t.now).overflow k.args.i.0 (basic_at (decode k.args.g k.args.t.now).basic k.args.i.0)
both k =
    ap (λ (q : Bool). q && no_entry_twice k.args.g (slots_from k.args.g k.args.g.nob (decode k.args.g k.args.t.now).overflow k.basic_head.result)) k.slots_apart.ensures
    ∙ long_as k.args.g k.args.t.now k.requires.0 k.args.i.0 k.requires.1 k.basic_head.result k.in-Ok.last.0 k.overflow_link.result k.displaced_run-run.result
    k.basic_head.ensures (ends_at _ _ _ (sym k.follow.ensures ∙ k.in-Ok.is)).is (ends_at _ _ _ (sym k.follow.ensures ∙ k.in-Ok.is)).low k.overflow_link.ensures k.displaced_run-run.ensures

pub returns-then-not-slots_apart : goal.returns-then-not-slots_apart
returns-then-not-slots_apart c =
    ap (λ (q : Bool). q && no_entry_twice c.args.g (slots_from c.args.g c.args.g.nob (decode c.args.g c.args.t.now).overflow c.basic_head.result)) (sym c.if-not-slots_apart.true)
    ∙ both (goal.at.returns-then-not-slots_apart c).After-slots_apart

pub returns : goal.returns
returns c =
    ap₂ ◌&&◌ (sym c.if-not-slots_apart.false) c.blocks_apart.ensures ∙ both (goal.at.returns c).After-slots_apart
