-- The bytes that are looked at decide.
use mathlib.Core.Path.{sym, ap, ◌∙◌}
use native.Mathlib.Omega.{arith}
use native.Mathlib.Nat.{min-le_right}
use lib.ListN.{length}
use lib.Seq.{length-take-le}
use Rattle.text_run.specs.Answers.{taken_of}
use Rattle.text_run.proofs.Takes.{taken_front}
use Rattle.text_run.proofs.Ends.{front_take}
use Rattle.text_run.proofs.run.read.Goals as goal

pub slice_bounds-read_run-end : goal.slice_bounds-read_run-end
slice_bounds-read_run-end c =
    let s = c.args.text.now in
    sym (length-take-le c.looked_at-n.result s (omega (arith, c.looked_at-n.ensures, min-le_right 46 (length s))))

pub returns : goal.returns
returns c =
    let s = c.args.text.now in
    c.read_run.ensures ∙ ap taken_of (front_take s c.looked_at-n.result c.looked_at-n.ensures) ∙ taken_front s
