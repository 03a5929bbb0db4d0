-- The lines of bytes that come in two parts, and what is written for them.
use Rattle.std.specs.Prelude.{◌≡◌, refl, List, [], ◌∷◌, ◌++◌, ℕ, suc, ◌≤◌, ◌<◌, length, take, drop, eqb}
use Rattle.std.proofs.Common.{sym, ap, ◌∙◌, append-nil, le_of_suc-le-suc, arith, length-append}
use Rattle.laws.specs.Cases.{cases}
use Rattle.settings.specs.declared.refusal.Refusal.TheVariants as refusal
use Rattle.text_read.specs.Reading.{on_first}
use Rattle.program_lines.specs.Ends.{line_feed, before}
use Rattle.program_commands.specs.Command.{longest_line}
use Rattle.program_answers.specs.Answer.{refused_text, line_reply}
use Rattle.program_answers.specs.theory.Lines.{line_long}
use Rattle.program_stream.specs.Output.{lines_of, answers_to, output_of}
use Rattle.program_stream.specs.Steps.{past_line}

-- ---- examples, where 97 and 98 are "a" and "b": the last line may lack its line feed, and nothing follows a final one

two_lines : lines_of (97 ∷ 10 ∷ 98 ∷ []) ≡ (97 ∷ []) ∷ (98 ∷ []) ∷ []
unfolding lines_of on_first
two_lines = refl

two_ended : lines_of (97 ∷ 10 ∷ 98 ∷ 10 ∷ []) ≡ (97 ∷ []) ∷ (98 ∷ []) ∷ []
unfolding lines_of on_first
two_ended = refl

empty_lines : lines_of (10 ∷ 10 ∷ []) ≡ [] ∷ [] ∷ []
unfolding lines_of
empty_lines = refl

-- ---- a line feed in the first part ends the first line

pub line_ends : (s rest : List ℕ) → before line_feed s < length s
    → lines_of (s ++ rest) ≡ take (before line_feed s) s ∷ lines_of (drop (suc (before line_feed s)) s ++ rest)
unfolding before lines_of on_first
line_ends [] rest h = absurd (omega (arith, h))
line_ends (b ∷ s) rest h =
    cases (eqb b line_feed)
    (λ e. simp e)
    (λ e. simp e (ap (on_first b) (line_ends s rest (le_of_suc-le-suc (simp e at h)))))

pub past_ends : (s rest : List ℕ) → before line_feed s < length s → past_line (s ++ rest) ≡ drop (suc (before line_feed s)) s ++ rest
unfolding before past_line
past_ends [] rest h = absurd (omega (arith, h))
past_ends (b ∷ s) rest h =
    cases (eqb b line_feed)
    (λ e. simp e)
    (λ e. simp e (past_ends s rest (le_of_suc-le-suc (simp e at h))))

-- ---- with none, the first line goes on in the second part

-- a byte in front of a text is in front of its first line
on_first_lem : (b : ℕ) (s : List ℕ) → on_first b (lines_of s) ≡ (b ∷ take (before line_feed s) s) ∷ lines_of (past_line s)
unfolding before lines_of on_first past_line
on_first_lem b [] = refl
on_first_lem b (x ∷ s) =
    cases (eqb x line_feed)
    (λ e. simp e)
    (λ e. simp e (ap (on_first b) (on_first_lem x s)))

pub line_goes_on : (s rest : List ℕ) → length s ≤ before line_feed s → 0 < length s
    → lines_of (s ++ rest) ≡ (s ++ take (before line_feed rest) rest) ∷ lines_of (past_line rest)
unfolding before lines_of on_first
line_goes_on [] rest h k = absurd (omega (arith, k))
line_goes_on (b ∷ []) rest h k =
    cases (eqb b line_feed)
    (λ e. absurd (omega (arith, simp e at h)))
    (λ e. simp e (on_first_lem b rest))
line_goes_on (b ∷ x ∷ s) rest h k =
    cases (eqb b line_feed)
    (λ e. absurd (omega (arith, simp e at h)))
    (λ e. simp e (ap (on_first b) (line_goes_on (x ∷ s) rest (le_of_suc-le-suc (simp e at h)) (omega arith))))

pub past_goes_on : (s rest : List ℕ) → length s ≤ before line_feed s → past_line (s ++ rest) ≡ past_line rest
unfolding before past_line
past_goes_on [] rest h = refl
past_goes_on (b ∷ s) rest h =
    cases (eqb b line_feed)
    (λ e. absurd (omega (arith, simp e at h)))
    (λ e. simp e (past_goes_on s rest (le_of_suc-le-suc (simp e at h))))

-- ---- what is written

pub output_ends : (t s rest : List ℕ) → before line_feed s < length s
    → output_of t (s ++ rest)
    ≡ (line_reply t (take (before line_feed s) s)).answer ++ output_of (line_reply t (take (before line_feed s) s)).bytes (drop (suc (before line_feed s)) s ++ rest)
unfolding output_of answers_to
output_ends t s rest h = ap (answers_to t) (line_ends s rest h)

-- a line that is too long is refused before its end is known
pub output_long : (t s rest : List ℕ) → length s ≤ before line_feed s → longest_line < length s
    → output_of t (s ++ rest) ≡ refused_text refusal.Line ++ output_of t (past_line rest)
unfolding output_of answers_to
output_long t s rest h k =
    let l = s ++ take (before line_feed rest) rest in
    let long : longest_line < length l = simp length-append (omega arith) in
    ap (answers_to t) (line_goes_on s rest h (omega arith)) ∙ rw (line_long t l long) refl

-- ---- the end of the input

pub output_none : (t s : List ℕ) → length s ≡ 0 → output_of t s ≡ []
unfolding output_of answers_to lines_of
output_none t [] h = refl
output_none t (b ∷ s) h = absurd (omega (arith, h))

-- a last line that lacks its line feed
pub output_last : (t s : List ℕ) → length s ≤ before line_feed s → 0 < length s → output_of t s ≡ (line_reply t s).answer
unfolding before output_of answers_to lines_of past_line
output_last t s h k =
    ap (output_of t) (sym (append-nil s)) ∙ ap (answers_to t) (line_goes_on s [] h k) ∙ simp append-nil

-- the end of a line that has been answered
pub output_past : (t s : List ℕ) → length s ≤ before line_feed s → output_of t (past_line s) ≡ []
unfolding before output_of answers_to lines_of past_line
output_past t s h = ap (λ (x : List ℕ). output_of t (past_line x)) (sym (append-nil s)) ∙ ap (output_of t) (past_goes_on s [] h)
