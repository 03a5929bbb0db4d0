-- The colon after the last group is left out: `rest_put`.
use mathlib.Core.Path.{◌≡◌, refl, sym}
use mathlib.Core.List.{◌++◌, append-nil}
use Prim.Native.Nat.{◌-◌, ◌<◌}
use native.Mathlib.Omega.{arith}
use lib.ListN.{take, drop}
use Rattle.text_write.specs.Writing.{part_text}
use Rattle.text_write.specs.WriterSteps.{key_groups}
use Rattle.text_write.proofs.Groups.{eight}
use Rattle.text_write.specs.theory.Texts.{part_none, rest_put}
use Rattle.text_write.proofs.writer.put_back.Goals as goal
use Rattle.text_write.proofs.writer.put_back.Goals.{After-put_groups}

pub returns-then-from-eq8 : goal.returns-then-from-eq8
returns-then-from-eq8 c =
    let a = c.args in
    let l = eight c.args.key in
    let n = part_none (key_groups a.key) a.from (omega (arith, c.if-from-eq8.true)) in
    record { within = omega arith; is = sym (rw n (append-nil (take a.at a.text.now))); kept = refl }

put : (c : After-put_groups) →
    let a = c.args in
    (0 < c.put_groups.result)
    × (take (c.put_groups.result - 1) c.put_groups.new.text ≡ take a.at a.text.now ++ part_text (drop a.from (key_groups a.key)))
put c =
    let a = c.args in
    rest_put (key_groups a.key) (take a.at a.text.now) c.put_groups.new.text a.from c.put_groups.result (eight a.key)
    (omega (arith, c.requires, c.if-from-eq8.false)) (omega (arith, c.put_groups.ensures.within, c.put_groups.auto.text, c.requires)) c.put_groups.ensures.is

pub overflow_sub-result : goal.overflow_sub-result
overflow_sub-result c = (put (goal.at.overflow_sub-result c).After-put_groups).0

pub returns : goal.returns
returns c =
    record { within = omega (arith, c.put_groups.ensures.within); is = (put (goal.at.returns c).After-put_groups).1; kept = c.put_groups.ensures.kept }
