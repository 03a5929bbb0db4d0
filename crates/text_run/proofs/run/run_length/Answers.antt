-- The first byte that is not of the run stands where it ends (`first_run`).
use Rattle.std.proofs.Common.{eqb, ◌∙◌, of_calls}
use Rattle.text_read.specs.Class.{class_of, other}
use Rattle.text_run.proofs.Ends.{first_run, run_start}
use Rattle.text_run.proofs.run.run_length.Goals as goal

pub returns : goal.returns
returns c =
    let s = c.args.text.now in
    c.first.ensures (λ x. eqb (class_of x) other) (λ x r h e. search of_calls) ∙ first_run s 0 ∙ run_start s
