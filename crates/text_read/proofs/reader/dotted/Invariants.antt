-- What is left of the text, with the decimals read so far, gives the answer.
use Prim.Native.Nat.{◌-◌, ◌^◌, ◌≤◌, ◌<◌}
use mathlib.Core.Path.{◌≡◌}
use lib.ListN.{length, drop}
use Rattle.text_read.specs.ReaderSteps.{dotted_from}
use Rattle.text_read.proofs.reader.dotted.Given as goal

abbrev pub invariant-loop-byte : goal.invariant-loop-byte
invariant-loop-byte l = (l.at ≤ length l.text) × (l.count ≤ 4) × (l.value < 256 ^ l.count) × (dotted_from 0 0 (drop l.from l.text) ≡ dotted_from l.value l.count (drop l.at l.text))

abbrev pub decreases-loop-byte : goal.decreases-loop-byte
decreases-loop-byte l = length l.text - l.at
