-- What is put is the definition's text: `text_plain`, `gap_put`.
use mathlib.Core.Path.{◌∙◌}
use Prim.Native.Nat.{◌+◌, ◌*◌, ◌-◌}
use native.Mathlib.Omega.{arith}
use lib.ListN.{set}
use Rattle.text_write.specs.WriterSteps.{key_groups}
use Rattle.text_write.specs.theory.Stores.{kept_later, kept_stored}
use Rattle.text_write.specs.theory.Texts.{text_plain, gap_put}
use Rattle.text_write.proofs.writer.put_hexadecimal.Goals as goal

pub returns-in_default : goal.returns-in_default
returns-in_default c = rw (text_plain (key_groups c.args.key) c.in_default.ensures.none) c.put_back.ensures

pub returns : goal.returns
returns c =
    let run = c.in-Some.field-0 in
    let g = c.in-Some.ensures.some in
    let t = c.put_front-end.new.text in
    let end = c.put_front-end.result in
    record {
      within = omega (arith, g.within, c.put_front-end.ensures.within, c.put_back-2.ensures.within);
      is =
          c.put_back-2.ensures.is
          ∙ gap_put (key_groups c.args.key) t end run.start run.count g.start g.count (omega arith) g.two c.put_front-end.ensures.is;
      kept =
          kept_later (set t end 58) c.put_back-2.new.text (end + 1 + 5 * (8 - (run.start + run.count))) 40 (omega arith) c.put_back-2.ensures.kept
          ∙ kept_stored c.args.text.now t (5 * run.start + 1) 40 end 58 (omega (arith, g.within)) (omega arith) c.put_front-end.ensures.kept;
    }
