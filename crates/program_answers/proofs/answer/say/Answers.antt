-- The parts of the line, one behind the other.
use mathlib.Core.Path.{ap, ◌∙◌}
use mathlib.Core.List.{List, ◌++◌}
use Prim.Native.Nat.{ℕ}
use native.Mathlib.Omega.{arith}
use Rattle.program_answers.specs.Answer.{word_text, said_text}
use Rattle.program_answers.proofs.Texts.{word_short, numbers_short}
use Rattle.program_answers.proofs.Puts.{wrote_then}
use Rattle.program_answers.proofs.answer.say.Goals as goal

pub put_numbers-requires : goal.put_numbers-requires
put_numbers-requires c =
    omega (arith, c.put_text-n.ensures.within, c.put_word-m.ensures.end, word_short c.args.said.word)

pub returns : goal.returns
unfolding said_text
returns c =
    let a = c.args in
    wrote_then (c.put_word-m.ensures.is ∙ ap (λ (l : List ℕ). l ++ word_text a.said.word) c.put_text-n.ensures.is) c.put_numbers.ensures
    (omega (arith, c.put_text-n.ensures.within, c.put_word-m.ensures.end, c.put_numbers.ensures.end, word_short a.said.word, numbers_short a.said.label a.said.compared (omega arith) (omega arith)))
