-- The list ends in a block, since it was followed; there go the displaced bits as they are then.
use mathlib.Core.Path.{sym, ◌∙◌}
use Prim.Native.Nat.{◌^◌, ◌<◌}
use native.Mathlib.Omega.{arith}
use Rattle.bits.specs.theory.Fields.{field_lt}
use Rattle.keys.specs.Key.{key_number}
use Rattle.table.specs.theory.Changes.{bits_high}
use Rattle.table_read.specs.Steps.{displaced_run}
use Rattle.table_read.specs.theory.Lasts.{EndsAt}
use Rattle.table_read.specs.theory.Reads.{link_lt, displaced_run_within}
use Rattle.table_store.specs.theory.StoreLaws.{table_kept}
use Rattle.table_relabel.proofs.LabelLaws.{label_ends, last, last_found, no_damage, relabelled_under}
use Rattle.table_relabel.proofs.label.relabel_displaced.Goals as goal
use Rattle.table_relabel.proofs.label.relabel_displaced.Goals.{In-Ok}

end : (c : In-Ok) → EndsAt c.args.g (last c.requires.0 c.requires.3) c.in-Ok.last
end c = last_found c.requires.0 c.requires.3 _ c.requires.4 _ (sym c.follow.ensures ∙ c.in-Ok.is)

pub returns-in_default : goal.returns-in_default
returns-in_default c = absurd (no_damage c.requires.0 c.requires.3 _ c.requires.4 (sym c.follow.ensures ∙ c.in_default.is))

pub overflow_link-old-requires : goal.overflow_link-old-requires
overflow_link-old-requires c = (c.requires.0.table, (end (goal.at.overflow_link-old-requires c).In-Ok).low)

pub store_over_displaced-new-requires-clause-val_bound : goal.store_over_displaced-new-requires-clause-val_bound
unfolding key_number
store_over_displaced-new-requires-clause-val_bound c =
    let T = c.requires.0.table in
    let l = label_ends c.requires.0 _ c.requires.2 c.requires.1 in
    (omega (arith, l, T.room), omega (arith, l, bits_high c.args.g T.proper), omega arith, T.proper.val_high, omega arith, c.requires.0.fits)

pub store_over_displaced-new-requires-clause-displaced_bound : goal.store_over_displaced-new-requires-clause-displaced_bound
store_over_displaced-new-requires-clause-displaced_bound c =
    let a = c.args in
    let T = c.requires.0.table in
    let l = link_lt a.g a.t.now T _ (end (goal.at.store_over_displaced-new-requires-clause-displaced_bound c).In-Ok).low in
    rw c.displaced_run-run.ensures
    (let w = displaced_run_within a.g a.t.now T a.i.0 c.overflow_link-old.result c.requires.0.list (omega (arith, c.overflow_link-old.ensures, l)) in (w.block, w.narrow, w.fits))

pub put_overflow_link-requires : goal.put_overflow_link-requires
unfolding displaced_run
put_overflow_link-requires c =
    let a = c.args in
    let l = (end (goal.at.put_overflow_link-requires c).In-Ok).low in
    let old : c.overflow_link-old.result < 2 ^ a.g.link = omega (arith, c.overflow_link-old.ensures, link_lt a.g a.t.now c.requires.0.table _ l) in
    let new : c.store_over_displaced-new.result < 2 ^ a.g.link = rw (c.store_over_displaced-new.ensures.head, c.displaced_run-run.ensures) (field_lt _ _ _) in
    (table_kept _ c.store_over_displaced-new.auto.t c.requires.0.table, l, omega arith)

pub returns : goal.returns
unfolding key_number
returns c =
    relabelled_under c.requires.0 c.requires.3 c.requires.1 _ _ _ _ _ _ _ _ _
    (end (goal.at.returns c).In-Ok).is c.overflow_link-old.ensures c.displaced_run-run.ensures c.requires.2 (omega arith) (omega arith)
    c.store_over_displaced-new.ensures c.put_overflow_link.ensures
