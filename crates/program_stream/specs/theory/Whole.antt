-- The claim over the whole input: in whatever pieces it is read, the bytes written are together what is due for all of it.
use Rattle.std.specs.Prelude.{◌≡◌, List, [], ◌++◌, Bool, false, ℕ}
use Rattle.std.proofs.Common.{sym, ap, ◌∙◌, append_assoc, append-nil}
use Rattle.program_stream.specs.Output.{output_of, new_table, program_output}
use Rattle.program_stream.specs.Steps.{due}
use Rattle.program_stream.specs.Run.{joined, Run, answered, read, ended}

pub whole : {t : List ℕ} {skip : Bool} {left : List ℕ} {cs : List (List ℕ)} {out : List ℕ} → Run t skip left cs out → out ≡ due t skip (left ++ joined cs)
unfolding joined
whole (answered {w = w} {cs = cs} k run) = ap (λ (x : List ℕ). w ++ x) (whole run) ∙ sym (k.says (joined cs))
whole {t} {skip} {left} (read {c = c} {cs = cs} k run) = whole run ∙ ap (due t skip) (append_assoc left c (joined cs))
whole {t} {skip} {left} (ended k e) = e ∙ ap (due t skip) (sym (append-nil left))

pub whole_output : {t : List ℕ} {cs : List (List ℕ)} {out : List ℕ} → Run t false [] cs out → out ≡ output_of t (joined cs)
whole_output run = whole run

-- the program: from a new table on
pub whole_program : {cs : List (List ℕ)} {out : List ℕ} → Run new_table false [] cs out → out ≡ program_output (joined cs)
unfolding program_output
whole_program run = whole_output run
