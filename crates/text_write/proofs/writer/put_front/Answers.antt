-- Groups with a colon after each are the groups parted by colons, and one colon more: `closed_front`.
use mathlib.Core.Path.{◌∙◌}
use Prim.Native.Nat.{◌+◌, ◌*◌, ◌-◌}
use native.Mathlib.Omega.{arith}
use lib.Seq.{drop-set-lt}
use Rattle.laws.specs.Lists.{take_stored}
use Rattle.text_write.specs.Writing.{part_text}
use Rattle.text_write.specs.WriterSteps.{key_groups}
use Rattle.text_write.proofs.Groups.{eight}
use Rattle.text_write.specs.theory.Stores.{kept_later}
use Rattle.text_write.specs.theory.Texts.{closed_front}
use Rattle.text_write.proofs.writer.put_front.Goals as goal

pub returns-then-to-eq0 : goal.returns-then-to-eq0
unfolding part_text
returns-then-to-eq0 c =
    let a = c.args in
    let o = a.text.now in
    record {
      within = omega arith;
      is = rw c.if-to-eq0.true (take_stored o 0 58 (omega (arith, c.requires)));
      kept = drop-set-lt (5 * a.to + 1) o 0 58 (omega arith);
    }

pub returns : goal.returns
returns c =
    let l = eight c.args.key in
    record {
      within = omega (arith, c.put_groups.ensures.within);
      is = c.put_groups.ensures.is ∙ closed_front (key_groups c.args.key) c.args.to (omega (arith, c.requires)) (omega (arith, c.if-to-eq0.false));
      kept = kept_later c.args.text.now c.put_groups.new.text (0 + 5 * (c.args.to - 0)) (5 * c.args.to + 1) (omega arith) c.put_groups.ensures.kept;
    }
