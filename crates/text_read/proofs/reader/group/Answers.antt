-- Far from the end each byte's class is the class at its place.
use Prim.Native.Nat.{ℕ, ◌+◌, ◌≤◌}
use mathlib.Core.Path.{◌≡◌, sym, ◌∙◌}
use native.Mathlib.Omega.{arith}
use lib.ListN.{get_or}
use Rattle.text_read.specs.Class.{class_of, colon}
use Rattle.text_read.specs.Classes.{class_at}
use Rattle.text_read.proofs.Fields.{class_here}
use Rattle.text_read.proofs.reader.group.Goals as goal

pub group_of-requires : goal.group_of-requires
group_of-requires c =
    let s = c.args.text.now in
    let at = c.args.at in
    let here : (i : ℕ) → i ≤ 4 → class_of (get_or s (at + i) 0) ≡ class_at colon s (at + i) = λ i h. sym (class_here colon s (at + i) (omega (arith, c.if-at-text.true))) in (
      record {
        one = c.class-a.ensures ∙ sym (class_here colon s at (omega (arith, c.if-at-text.true)));
        two = c.class-b.ensures ∙ here 1 (omega arith);
        three = c.class-c.ensures ∙ here 2 (omega arith);
        four = c.class-d.ensures ∙ here 3 (omega arith);
        five = c.class-e.ensures ∙ here 4 (omega arith);
      },
      c.requires,
    )
