-- Every list of pieces has a run: what can be known of the answers before more is read can always be written.
use Rattle.std.specs.Prelude.{◌≡◌, refl, Bool, true, false, ℕ, zero, suc, ◌≤◌, ◌<◌, length, take, drop, ltb}
use Rattle.std.proofs.Math.Path.{sym, ap}
use Rattle.std.proofs.Common.{◌∙◌, arith, length-drop, lit≤, ltb-true, ltb-false}
use mathlib.Core.List.{List, [], ◌∷◌, ◌++◌, append_assoc, append-nil}
use Rattle.laws.specs.Cases.{cases}
use Rattle.settings.specs.declared.refusal.Refusal.TheVariants as refusal
use Rattle.program_lines.specs.Ends.{line_feed, before}
use Rattle.program_commands.specs.Command.{longest_line}
use Rattle.program_answers.specs.Answer.{refused_text, line_reply}
use Rattle.program_stream.specs.Output.{output_of, new_table, program_output}
use Rattle.program_stream.specs.Steps.{due, Answers, Waits}
use Rattle.program_stream.specs.Run.{joined, Run, answered, read, ended, Sofar}
use Rattle.program_stream.specs.theory.Lines.{past_ends, past_goes_on, output_ends, output_long}
use Rattle.program_stream.specs.theory.Whole.{whole, whole_program}

-- bytes answered until more must be read
pub record Settled (t : List ℕ) (skip : Bool) (s : List ℕ) : Type 0 where
  pub out : List ℕ
  pub table : List ℕ
  pub past : Bool
  pub left : List ℕ
  pub answers : Answers t skip s out table past left
  pub waits : Waits left

waits_none : Waits []
unfolding before
waits_none = record { none = lit≤ tt; short = lit≤ tt }

-- without a line feed
module _ (t s : List ℕ) (h : length s ≤ before line_feed s) where
  rest_past : Settled t true s
  rest_past =
      record { out = []; table = t; past = true; left = []; answers = record { says = λ rest. ap (output_of t) (past_goes_on s rest h) }; waits = waits_none }

  rest_long : longest_line < length s → Settled t false s
  rest_long k =
      record { out = refused_text refusal.Line; table = t; past = true; left = []; answers = record { says = λ rest. output_long t s rest h k }; waits = waits_none }

  rest_short : length s ≤ longest_line → Settled t false s
  rest_short k =
      record { out = []; table = t; past = false; left = s; answers = record { says = λ rest. refl }; waits = record { none = h; short = k } }

settled_rest : (t : List ℕ) (skip : Bool) (s : List ℕ) → length s ≤ before line_feed s → Settled t skip s
settled_rest t true s h = rest_past t s h
settled_rest t false s h =
    cases (ltb longest_line (length s))
    (λ e. rest_long t s h (ltb-true _ _ e))
    (λ e. rest_short t s h (ltb-false _ _ e))

-- a step, and what is settled from there on
then : {t : List ℕ} {skip : Bool} {s : List ℕ} (w t' : List ℕ) (skip' : Bool) (s' : List ℕ) → Answers t skip s w t' skip' s' → Settled t' skip' s' → Settled t skip s
then w t' skip' s' a k =
    record {
      out = w ++ k.out;
      table = k.table;
      past = k.past;
      left = k.left;
      answers = record { says = λ rest. a.says rest ∙ ap (λ (x : List ℕ). w ++ x) (k.answers.says rest) ∙ sym (append_assoc w k.out (due k.table k.past (k.left ++ rest))) };
      waits = k.waits;
    }

-- the first line, and what is settled behind it
settled_line : (t : List ℕ) (skip : Bool) (s : List ℕ) → before line_feed s < length s
    → ((t' : List ℕ) → Settled t' false (drop (suc (before line_feed s)) s)) → Settled t skip s
settled_line t true s h f = then [] t false (drop (suc (before line_feed s)) s) (record { says = λ rest. ap (output_of t) (past_ends s rest h) }) (f t)
settled_line t false s h f =
    let r = line_reply t (take (before line_feed s) s) in
    then r.answer r.bytes false (drop (suc (before line_feed s)) s) (record { says = λ rest. output_ends t s rest h }) (f r.bytes)

settled_within : (n : ℕ) (t : List ℕ) (skip : Bool) (s : List ℕ) → length s ≤ n → Settled t skip s
settled_within zero t skip s h = settled_rest t skip s (omega arith)
settled_within (suc n) t skip s h =
    cases (ltb (before line_feed s) (length s))
    (λ e. settled_line t skip s (ltb-true _ _ e) (λ t'. settled_within n t' false (drop (suc (before line_feed s)) s) (simp length-drop (omega arith))))
    (λ e. settled_rest t skip s (ltb-false _ _ e))

pub settled : (t : List ℕ) (skip : Bool) (s : List ℕ) → Settled t skip s
settled t skip s = settled_within (length s) t skip s (omega arith)

-- ---- runs

pub has_run : (t : List ℕ) (skip : Bool) (left : List ℕ) (cs : List (List ℕ)) → (out : List ℕ) × Run t skip left cs out
has_run t skip left [] =
    let k = settled t skip left in
    (k.out ++ due k.table k.past k.left, answered k.answers (ended k.waits refl))
has_run t skip left (c ∷ cs) =
    let k = settled t skip left in
    let r = has_run k.table k.past (k.left ++ c) cs in
    (k.out ++ r.0, answered k.answers (read k.waits r.1))

-- in whatever pieces the input is read, there is a run, and it writes what is due for all of it
pub every_run : (cs : List (List ℕ)) → Run new_table false [] cs (program_output (joined cs))
every_run cs =
    let r = has_run new_table false [] cs in
    rw (← whole_program r.1) r.1

-- ---- a run that has come so far

joined_two : (cs : List (List ℕ)) (rest : List ℕ) → joined (cs ++ rest ∷ []) ≡ joined cs ++ rest
unfolding joined
joined_two [] rest = append-nil rest
joined_two (c ∷ cs) rest = ap (λ (x : List ℕ). c ++ x) (joined_two cs rest) ∙ sym (append_assoc c (joined cs) rest)

-- the program starts, from a new table on, before anything is read
pub starts : {t : List ℕ} → t ≡ new_table → Sofar [] [] t false []
starts e = record { goes = λ cs more run. rw e at run }

module _ {pieces : List (List ℕ)} {out t : List ℕ} {skip : Bool} {left : List ℕ} (f : Sofar pieces out t skip left) where
  -- it writes answers
  pub then_answered : {w t' : List ℕ} {skip' : Bool} {left' : List ℕ} → Answers t skip left w t' skip' left' → Sofar pieces (out ++ w) t' skip' left'
  then_answered {w = w} a = record { goes = λ cs more run. rw append_assoc (f.goes cs (w ++ more) (answered a run)) }

  -- it reads a piece
  pub then_read : (c : List ℕ) → Waits left → Sofar (pieces ++ c ∷ []) out t skip (left ++ c)
  then_read c k = record { goes = λ cs more run. rw append_assoc (f.goes (c ∷ cs) more (read k run)) }

  -- it ends
  pub then_ended : {w : List ℕ} → Waits left → w ≡ due t skip left → Run new_table false [] pieces (out ++ w)
  then_ended {w} k e = rw append-nil at (f.goes [] w (ended k e))

  -- whatever follows what it has read, what it has written is the beginning of all that is due, and the rest is due for what is left with what follows
  pub so_far : (rest : List ℕ) → program_output (joined pieces ++ rest) ≡ out ++ due t skip (left ++ rest)
  unfolding joined
  so_far rest =
      let r = has_run t skip left (rest ∷ []) in
      ap program_output (sym (joined_two pieces rest)) ∙ sym (whole_program (f.goes _ _ r.1))
      ∙ ap (λ (x : List ℕ). out ++ x) (whole r.1 ∙ ap (λ (x : List ℕ). due t skip (left ++ x)) (append-nil rest))
