-- The basic block's counter decides: that many entries, damage, or the block's slots and those of the overflow blocks.
use mathlib.Core.Path.{◌≡◌, sym, ap, ◌∙◌}
use native.Mathlib.Omega.{arith}
use Rattle.std.proofs.lemmas.Result.{err_from_is_err_and}
use Rattle.table.specs.Decode.{decode}
use Rattle.table.specs.Follow.{content}
use Rattle.table_cursor.specs.Survey.{list_length}
use Rattle.table_cursor.proofs.LengthLaws.{plus, blocks_few, list_short, list_high, list_long}
use Rattle.table_cursor.proofs.count.list_length.Goals as goal
use Rattle.table_cursor.proofs.count.list_length.Goals.{After-blocks_length}

pub returns-then-c-g : goal.returns-then-c-g
returns-then-c-g c =
    list_short c.args.g c.args.t.now c.requires.0 c.args.i.0 c.basic_counter-c.result c.basic_counter-c.ensures (omega (arith, c.if-c-g.true))

pub returns-then-c-g-2 : goal.returns-then-c-g-2
returns-then-c-g-2 c =
    list_high c.args.g c.args.t.now c.requires.0 c.args.i.0 c.basic_counter-c.result c.basic_counter-c.ensures (omega (arith, c.if-c-g-2.true))

-- the entries of the basic block, and what was found of the overflow blocks
long : (c : After-blocks_length) → let a = c.args in
    plus a.g.sib c.blocks_length.result ≡ list_length (content a.g (decode a.g a.t.now) a.i.0)
long c =
    list_long c.args.g c.args.t.now c.requires.0 c.args.i.0 c.basic_counter-c.result c.basic_head.result c.blocks_length.result
    c.basic_counter-c.ensures (omega (arith, c.if-c-g-2.false, c.if-c-g.false)) c.basic_head.ensures c.blocks_length.ensures

pub returns-in_err-n : goal.returns-in_err-n
returns-in_err-n c =
    let a = c.args in
    (err_from_is_err_and c.from_residual.result c.from_residual.ensures.1).1 ∙ sym (ap (plus a.g.sib) c.in_err-n.was) ∙ long (goal.at.returns-in_err-n c).After-blocks_length

pub overflow_add-result : goal.overflow_add-result
overflow_add-result c =
    omega (
      arith,
      c.requires.0.proper.sib_high,
      c.requires.0.proper.nob_high,
      blocks_few c.args.g c.args.t.now c.requires.0 c.args.i.0 c.args.g.nob _ _ c.blocks_length.result c.blocks_length.ensures c.in_ok-n.was,
    )

pub returns : goal.returns
returns c =
    let a = c.args in
    sym (ap (plus a.g.sib) c.in_ok-n.was) ∙ long (goal.at.returns c).After-blocks_length
