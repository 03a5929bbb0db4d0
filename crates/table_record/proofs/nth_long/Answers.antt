-- The basic block's slots come first, their displaced bits put back, and then those of the overflow blocks.
use mathlib.Core.Path.{refl, sym, ap, ◌∙◌}
use native.Mathlib.Omega.{arith}
use Rattle.std.proofs.lemmas.Result.{err_from_is_err_and}
use Rattle.table_read.specs.theory.Lasts.{ends_at, no_end}
use Rattle.table_read.specs.theory.Reads.{displaced_run_within, head_lt, link_lt}
use Rattle.table_record.proofs.Records.{stands, nth_damaged, list_unended, list_followed, nth_displaced, nth_behind}
use Rattle.table_record.proofs.nth_long.Goals as goal

pub returns-in_err-last : goal.returns-in_err-last
returns-in_err-last c =
    rw ((err_from_is_err_and c.from_residual.result c.from_residual.ensures.1).1) (
      nth_damaged c.args.g c.args.t.now c.requires.0 c.args.i.0 c.requires.1 c.args.n
          (list_unended c.args.g c.args.t.now c.requires.0 c.args.i.0 c.requires.1 c.args.first.0 _ c.requires.2 refl
          (no_end c.args.g _ (sym c.follow.ensures ∙ c.in_err-last.was))),
      tt,
    )

pub overflow_link-requires : goal.overflow_link-requires
overflow_link-requires c =
    let end = ends_at _ _ _ (sym c.follow.ensures ∙ c.in_ok-last.was) in
    (c.requires.0, end.low)

pub nth_of-requires : goal.nth_of-requires
nth_of-requires c =
    let end = ends_at _ _ _ (sym c.follow.ensures ∙ c.in_ok-last.was) in
    let d = c.overflow_link in
    let T = c.requires.0 in
    let f = link_lt c.args.g c.args.t.now T c.in_ok-last.last.0 end.low in (
      T.proper,
      rw c.displaced_run.ensures
          (displaced_run_within c.args.g c.args.t.now T c.args.i.0 _ c.requires.1
          (omega (arith, d.ensures, f, c.requires.2.head, head_lt c.args.g c.args.t.now T c.args.i.0 c.requires.1))),
    )

pub returns-then-n-sib : goal.returns-then-n-sib
returns-then-n-sib c =
    let end = ends_at _ _ _ (sym c.follow.ensures ∙ c.in_ok-last.was) in (
      ap stands c.nth_of.ensures.0
          ∙ nth_displaced c.args.g c.args.t.now c.requires.0 c.args.i.0 c.requires.1 c.args.first.0 c.in_ok-last.last.0 c.requires.2 end.is end.low
          c.args.n c.displaced_run.result c.overflow_link.result c.overflow_link.ensures c.displaced_run.ensures c.if-n-sib.true,
      c.nth_of.ensures.1,
    )

pub nth_blocks-requires : goal.nth_blocks-requires
nth_blocks-requires c =
    let end = ends_at _ _ _ (sym c.follow.ensures ∙ c.in_ok-last.was) in (
      c.requires.0,
      list_followed c.args.g c.args.t.now c.requires.0 c.args.i.0 c.requires.1 c.args.first.0 c.in_ok-last.last.0 c.requires.2 end.is end.low,
    )

pub returns : goal.returns
returns c =
    let end = ends_at _ _ _ (sym c.follow.ensures ∙ c.in_ok-last.was) in (
      ap stands c.nth_blocks.ensures.0
          ∙ nth_behind c.args.g c.args.t.now c.requires.0 c.args.i.0 c.requires.1 c.args.first.0 c.in_ok-last.last.0 c.requires.2 end.is end.low c.args.n c.if-n-sib.false,
      c.nth_blocks.ensures.1,
    )
