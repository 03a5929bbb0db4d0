-- The bytes of the text have been put as far as i, and those behind them stay.
use mathlib.Core.Path.{◌≡◌}
use mathlib.Core.List.{◌++◌}
use Prim.Native.Nat.{◌+◌}
use lib.ListN.{take, drop}
use Rattle.program_answers.proofs.text.put.Given as goal

abbrev pub invariant-loop-i : goal.invariant-loop-i
invariant-loop-i l =
    record {
      is : take (l.at + l.i) l.out ≡ take l.at l.initial.out ++ take l.i l.text;
      rest : drop (l.at + l.i) l.out ≡ drop (l.at + l.i) l.initial.out;
    }
