-- The invariant: what is written, with the groups that are left, is the text of all of them.
use mathlib.Core.Path.{◌≡◌}
use mathlib.Core.List.{◌++◌}
use Prim.Native.Nat.{◌+◌, ◌*◌, ◌-◌, ◌≤◌}
use lib.ListN.{take, drop}
use Rattle.text_write.specs.WriterSteps.{key_groups, closed_text}
use Rattle.text_write.proofs.writer.put_groups.Given as goal

abbrev pub invariant-loop-i : goal.invariant-loop-i
invariant-loop-i l =
    record {
      within : l.end ≤ l.at + 5 * (l.i - l.from);
      is : take l.end l.text ++ closed_text (drop l.i (take l.to (key_groups l.key))) ≡ take l.at l.initial.text ++ closed_text (drop l.from (take l.to (key_groups l.key)));
      kept : drop (l.at + 5 * (l.to - l.from)) l.text ≡ drop (l.at + 5 * (l.to - l.from)) l.initial.text;
    }
