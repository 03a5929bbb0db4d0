-- The answer of the free chain decides.
use mathlib.Core.Path.{sym, ap, ◌∙◌}
use native.Mathlib.Omega.{arith}
use Rattle.keys.specs.Key.{key_number}
use Rattle.table.specs.Answer.{said}
use Rattle.table.specs.declared.answers.Word.TheVariants as word
use Rattle.table.specs.Decode.{decode}
use Rattle.table_read.specs.theory.Reads.{head_lt}
use Rattle.table_store.specs.theory.StoreLaws.{slot_lt}
use Rattle.table_enter.proofs.FreeLaws.{Takes, takes}
use Rattle.table_enter.proofs.AppendLaws.{first_refused, append_first}
use Rattle.std.proofs.lemmas.Result.{err_from_is_err_and}
use Rattle.table_enter.proofs.append.append_first.Goals as goal
use Rattle.table_enter.proofs.append.append_first.Goals.{In_ok-free}

took : (c : In_ok-free) → Takes c.args.g (decode c.args.g c.args.t.now) c.in_ok-free.free.number.0 c.in_ok-free.free.next.0
took c = takes _ _ _ (sym c.first_free.ensures ∙ c.in_ok-free.was)

pub first_free-requires : goal.first_free-requires
first_free-requires c = c.requires.0.table

pub basic_head-displaced-requires : goal.basic_head-displaced-requires
basic_head-displaced-requires c = (c.requires.0.table, c.requires.0.list)

pub overflow_add-g : goal.overflow_add-g
overflow_add-g c = omega (arith, c.requires.0.table.proper.sib_high)

pub put_basic_front-requires : goal.put_basic_front-requires
put_basic_front-requires c =
    let k = took (goal.at.put_basic_front-requires c).In_ok-free in
    (c.requires.0.table, c.requires.0.list, omega arith, omega (arith, k.low, c.requires.0.table.proper.link_holds))

pub take-requires : goal.take-requires
take-requires c =
    let k = took (goal.at.take-requires c).In_ok-free in (
      c.put_basic_front.ensures.table,
      c.requires.0.list,
      k.low,
      rw c.basic_head-displaced.ensures (head_lt c.args.g c.args.t.now c.requires.0.table c.args.i.0 c.requires.0.list),
      k.next_low,
      c.requires.0.slotted,
    )

pub overflow_number-requires : goal.overflow_number-requires
overflow_number-requires c =
    let T = c.requires.0.table in
    (T.proper, (took (goal.at.overflow_number-requires c).In_ok-free).low, T.proper.sio_low)

pub returns : goal.returns
returns c =
    let g = c.args.g in
    let T = c.requires.0.table in
    let v = c.args.v in
    append_first g c.args.t.now T (λ j. omega (arith, c.slice_known-1.given j)) c.args.i.0 v c.requires.0.list
    (slot_lt g T.proper (key_number v.entry) v.label c.requires.0.slotted) c.requires.1 _ _ _
    (took (goal.at.returns c).In_ok-free)
    c.basic_head-displaced.ensures _ _ _
    c.put_basic_front.ensures
    c.take.ensures
    (c.added.ensures ∙ ap (said word.Added _ _) c.overflow_number.ensures)

pub returns-in_err-free : goal.returns-in_err-free
returns-in_err-free c =
    let g = c.args.g in
    let T = c.requires.0.table in
    let v = c.args.v in
    let p = err_from_is_err_and c.from_residual.result c.from_residual.ensures.1 in
    rw (p.1, p.2)
    (first_refused g c.args.t.now T (λ j. omega (arith, c.slice_known-1.given j)) c.args.i.0 v c.requires.0.list
    (slot_lt g T.proper (key_number v.entry) v.label c.requires.0.slotted) c.requires.1 _
    (sym c.first_free.ensures ∙ c.in_err-free.was))
