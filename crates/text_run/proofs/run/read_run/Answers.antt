-- The run is read as a whole.
use mathlib.Core.Path.{sym}
use native.Mathlib.Omega.{arith}
use lib.Seq.{length-take-le}
use Rattle.std.proofs.Common.{Ok, Err}
use Rattle.std.proofs.lemmas.Result.{err_from_is_err_and}
use Rattle.text_run.specs.Answers.{taking}
use Rattle.text_run.proofs.Ends.{run_le, taken_is}
use Rattle.text_run.proofs.run.read_run.Goals as goal

pub slice_bounds-read-end : goal.slice_bounds-read-end
slice_bounds-read-end c =
    sym (length-take-le c.run_length-bytes.result c.args.text.now (omega (arith, c.run_length-bytes.ensures, run_le c.args.text.now)))

pub returns-in_err-key : goal.returns-in_err-key
unfolding taking
returns-in_err-key c =
    let p = err_from_is_err_and c.from_residual.result c.from_residual.ensures.1 in
    rw (p.1, p.2) (taken_is _ _ (Err _) c.run_length-bytes.ensures c.in_err-key.ensures)

pub returns : goal.returns
unfolding taking
returns c = taken_is _ _ (Ok _) c.run_length-bytes.ensures c.in_ok-key.ensures
