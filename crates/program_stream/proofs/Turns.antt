-- What each way of a turn ensures, from what its tests and its callees say.
use mathlib.Core.Path.{◌≡◌, refl, sym, ap, ◌∙◌}
use mathlib.Core.List.{List, ◌++◌, append_assoc}
use mathlib.Core.Bool.{true, false}
use Prim.Native.Nat.{ℕ, suc, ◌+◌, ◌-◌, ◌≤◌, ◌<◌}
use native.Mathlib.Omega.{arith}
use lib.ListN.{length, take, drop, length-drop}
use lib.Seq.{drop-drop, drop-length}
use lib.Dec.{lit≤}
use Rattle.settings.specs.declared.refusal.Refusal.TheVariants as refusal
use Rattle.program_lines.specs.Ends.{line_feed, before, first_from, span_at}
use Rattle.program_lines.specs.theory.Ends.{span_line, span_rest, first_after}
use Rattle.std.specs.Prelude.{Some, None}
use Rattle.program_commands.specs.Command.{longest_line}
use Rattle.program_answers.specs.Answer.{answer_room, refused_text, line_reply}
use Rattle.program_stream.specs.Output.{output_of}
use Rattle.program_stream.specs.declared.Place.{Place}
use Rattle.program_stream.specs.declared.Step.TheVariants as step
use Rattle.program_stream.specs.Steps.{past_line, Turned}
use Rattle.program_stream.specs.theory.Lines.{past_ends, past_goes_on, output_ends, output_long}

-- what stood in the buffer and what is put behind it are what stands there now
behind : (a b x o : List ℕ) → o ≡ a ++ b → a ++ (b ++ x) ≡ o ++ x
behind a b x o e = rw e (sym (append_assoc a b x))

module _ (t input : List ℕ) (at e : ℕ) (rest : List ℕ) (he : e ≡ first_from line_feed input at) (hl : e < length input) where
  is_before : before line_feed (drop at input) ≡ e - at
  unfolding first_from
  is_before = omega arith

  after : drop (suc (before line_feed (drop at input))) (drop at input) ≡ drop (e + 1) input
  unfolding first_from
  after =
      let k : at + suc (before line_feed (drop at input)) ≡ e + 1 = omega arith in
      drop-drop (suc (before line_feed (drop at input))) at input ∙ ap (λ (n : ℕ). drop n input) k

  inside : before line_feed (drop at input) < length (drop at input)
  unfolding first_from
  inside = omega (arith, length-drop at input)

  line_at : output_of t (drop at input ++ rest)
      ≡ (line_reply t (take (e - at) (drop at input))).answer ++ output_of (line_reply t (take (e - at) (drop at input))).bytes (drop (e + 1) input ++ rest)
  line_at = output_ends t (drop at input) rest inside ∙ rw (after, is_before) refl

  past_at : past_line (drop at input ++ rest) ≡ drop (e + 1) input ++ rest
  past_at = past_ends (drop at input) rest inside ∙ rw after refl

module _ (input : List ℕ) (p : Place) (t out : List ℕ) (ha : p.at ≤ length input) where
  abbrev at : ℕ
  at = p.at

  abbrev made : ℕ
  made = p.made

  module _ (e : ℕ) (he : span_at input at ≡ Some e) where
    pub turned_line : (t' out' : List ℕ) (r : ℕ) → p.skip ≡ false → r ≤ made + answer_room
        → t' ≡ (line_reply t (take (e - at) (drop at input))).bytes
        → take r out' ≡ take made out ++ (line_reply t (take (e - at) (drop at input))).answer
        → Turned input p t out (step.More (record { at = e + 1; made = r; skip = false })) t' out'
    turned_line t' out' r es hr et eo =
        let s = span_line input at e he in
        record {
          within = omega arith;
          room = hr;
          onward = λ _. omega (arith, first_after line_feed input at);
          short = λ f. let z : ◌≡◌ {A = ℕ} 0 1 = cc in absurd (omega arith);
          none = λ f. let z : ◌≡◌ {A = ℕ} 0 1 = cc in absurd (omega arith);
          says = λ rest. rw (es, et) (ap (λ (x : List ℕ). take made out ++ x) (line_at t input at e rest s.0 (omega arith))
              ∙ behind (take made out) (line_reply t (take (e - at) (drop at input))).answer (output_of (line_reply t (take (e - at) (drop at input))).bytes (drop (e + 1) input ++ rest)) (take r out') eo);
        }

    pub turned_past : p.skip ≡ true → Turned input p t out (step.More (record { at = e + 1; made = made; skip = false })) t out
    turned_past es =
        let s = span_line input at e he in
        record {
          within = omega arith;
          room = omega arith;
          onward = λ _. omega (arith, first_after line_feed input at);
          short = λ f. let z : ◌≡◌ {A = ℕ} 0 1 = cc in absurd (omega arith);
          none = λ f. let z : ◌≡◌ {A = ℕ} 0 1 = cc in absurd (omega arith);
          says = λ rest. rw es (ap (λ (x : List ℕ). take made out ++ output_of t x) (past_at t input at e rest s.0 (omega arith)));
        }

  module _ (he : span_at input at ≡ None) where
    all_in : length (drop at input) ≤ before line_feed (drop at input)
    unfolding first_from
    all_in = omega (arith, span_rest input at he, length-drop at input)

    none_left : length (drop (length input) input) ≤ before line_feed (drop (length input) input)
    unfolding before
    none_left = rw drop-length (lit≤ tt)

    pub turned_past_rest : p.skip ≡ true → Turned input p t out (step.Rest (record { at = length input; made = made; skip = p.skip })) t out
    turned_past_rest es =
        record {
          within = omega arith;
          room = omega arith;
          onward = λ f. let z : ◌≡◌ {A = ℕ} 0 1 = cc in absurd (omega arith);
          short = λ _. omega arith;
          none = λ _. none_left;
          says = λ rest. rw (es, drop-length) (ap (λ (x : List ℕ). take made out ++ output_of t x) (past_goes_on (drop at input) rest all_in));
        }

    pub turned_long : (out' : List ℕ) (r : ℕ) → p.skip ≡ false → longest_line < length input - at → r ≤ made + answer_room
        → take r out' ≡ take made out ++ refused_text refusal.Line
        → Turned input p t out (step.Rest (record { at = length input; made = r; skip = true })) t out'
    turned_long out' r es hl hr eo =
        record {
          within = omega arith;
          room = hr;
          onward = λ f. let z : ◌≡◌ {A = ℕ} 0 1 = cc in absurd (omega arith);
          short = λ _. omega arith;
          none = λ _. none_left;
          says = λ rest. rw (es, drop-length) (ap (λ (x : List ℕ). take made out ++ x) (output_long t (drop at input) rest all_in (omega (arith, length-drop at input)))
              ∙ behind (take made out) (refused_text refusal.Line) (output_of t (past_line rest)) (take r out') eo);
        }

    pub turned_short : p.skip ≡ false → length input - at ≤ longest_line → Turned input p t out (step.Rest p) t out
    turned_short es hl =
        record {
          within = ha;
          room = omega arith;
          onward = λ f. let z : ◌≡◌ {A = ℕ} 0 1 = cc in absurd (omega arith);
          short = λ _. omega arith;
          none = λ _. all_in;
          says = λ rest. rw es refl;
        }
