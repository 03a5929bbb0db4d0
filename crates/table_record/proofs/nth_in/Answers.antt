-- The basic block's counter decides which slots are the list's.
use mathlib.Core.Path.{ap, ◌∙◌}
use native.Mathlib.Omega.{arith}
use Rattle.table.specs.Decode.{decode}
use Rattle.table_read.specs.theory.Reads.{basic_run_within}
use Rattle.table_read.specs.theory.Walks.{content_high}
use Rattle.table_record.proofs.Records.{stands, nth_damaged, nth_short}
use Rattle.table_record.proofs.nth_in.Goals as goal

pub nth_of-requires : goal.nth_of-requires
nth_of-requires c = (
  c.requires.0.proper,
  rw c.basic_run.ensures
      (basic_run_within c.args.g c.args.t.now c.requires.0 c.args.i.0 c.basic_counter-c.result c.requires.1 c.if-c-g.true),
)

pub returns-then-c-g : goal.returns-then-c-g
returns-then-c-g c = (
  ap stands c.nth_of.ensures.0
      ∙ nth_short c.args.g c.args.t.now c.requires.0 c.args.i.0 c.requires.1 c.args.n c.basic_run.result c.basic_counter-c.result
      c.basic_counter-c.ensures c.if-c-g.true c.basic_run.ensures,
  c.nth_of.ensures.1,
)

pub returns-then-c-g-2 : goal.returns-then-c-g-2
returns-then-c-g-2 c = (
  nth_damaged c.args.g c.args.t.now c.requires.0 c.args.i.0 c.requires.1 c.args.n
      (content_high c.args.g (decode c.args.g c.args.t.now) c.args.i.0 (omega (arith, c.basic_counter-c.ensures, c.if-c-g-2.true))),
  tt,
)
