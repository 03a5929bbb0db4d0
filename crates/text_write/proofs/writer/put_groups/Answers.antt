use mathlib.Core.Path.{◌≡◌, sym, ap, ◌∙◌}
use mathlib.Core.List.{List, [], ◌∷◌, ◌++◌, append-nil}
use Prim.Native.Nat.{ℕ, ◌+◌, ◌*◌, ◌-◌, ◌≤◌, ◌<◌}
use native.Mathlib.Omega.{arith}
use lib.ListN.{length, take, drop, get_or}
use Rattle.text_write.specs.Writing.{group_text}
use Rattle.text_write.specs.WriterSteps.{key_groups, closed_text}
use Rattle.text_write.proofs.Groups.{eight}
use Rattle.text_write.specs.theory.Stores.{kept_later}
use Rattle.text_write.specs.theory.Texts.{closed_none, closed_next, one_step}
use Rattle.text_write.proofs.writer.put_groups.Goals as goal

pub loop-i-preserved : goal.loop-i-preserved
loop-i-preserved c =
    let a = c.args in
    let g = key_groups a.key in
    let i = c.loop-i.i in
    let h : i < a.to = c.loop-i-test.true in
    let w : a.to ≤ length g = omega (arith, eight a.key, c.requires) in
    record {
      within = omega (arith, c.loop-i.invariant.within, c.put_group-end.ensures.within);
      is =
          one_step (take c.loop-i.end c.loop-i.text) (take c.put_group-end.result c.put_group-end.new.text) (group_text (get_or g i 0) ++ 58 ∷ [])
          (closed_text (drop i (take a.to g))) (closed_text (drop (i + 1) (take a.to g)))
          (c.put_group-end.ensures.is ∙ ap (λ (x : ℕ). take c.loop-i.end c.loop-i.text ++ (group_text x ++ 58 ∷ [])) c.group_at.ensures)
          (closed_next g i a.to h w)
          ∙ c.loop-i.invariant.is;
      kept =
          kept_later c.loop-i.text c.put_group-end.new.text (c.loop-i.end + 5) (a.at + 5 * (a.to - a.from)) (omega (arith, c.loop-i.invariant.within, h)) c.put_group-end.ensures.kept
          ∙ c.loop-i.invariant.kept;
    }

pub returns : goal.returns
returns c =
    let a = c.args in
    let t = take c.loop-i.end c.loop-i.text in
    let z : closed_text (drop c.loop-i.i (take a.to (key_groups a.key))) ≡ [] =
    closed_none (key_groups a.key) c.loop-i.i a.to c.loop-i-test.false
    in
    record {
      within = omega (arith, c.loop-i.invariant.within);
      is = sym (ap (λ (x : List ℕ). t ++ x) z ∙ append-nil t) ∙ c.loop-i.invariant.is;
      kept = c.loop-i.invariant.kept;
    }
