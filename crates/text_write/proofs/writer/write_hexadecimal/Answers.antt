-- The text is put together as `written` says; what is answered follows by whether it fits.
use mathlib.Core.Path.{◌≡◌, sym, ap, ◌∙◌}
use mathlib.Core.List.{List, ◌++◌}
use Prim.Native.Nat.{ℕ}
use native.Mathlib.Omega.{arith}
use lib.ListN.{length, take, drop}
use lib.Seq.{length-take-le}
use Rattle.text_write.specs.Writing.{written}
use Rattle.text_write.specs.WriterSteps.{key_groups}
use Rattle.text_write.specs.theory.Mapped.{written_plain}
use Rattle.text_write.specs.theory.Answered.{too_long, fits}
use Rattle.text_write.proofs.writer.write_hexadecimal.Goals as goal
use Rattle.text_write.proofs.writer.write_hexadecimal.Goals.{After-put_hexadecimal-n}

put : (c : After-put_hexadecimal-n) →
    let k = c.args.key in
    take c.put_hexadecimal-n.result c.put_hexadecimal-n.new.text ≡ written k.high k.low
unfolding key_groups
put c =
    let k = c.args.key in
    c.put_hexadecimal-n.ensures.is ∙ sym (written_plain k.high k.low c.requires)

size : (c : After-put_hexadecimal-n) →
    let k = c.args.key in
    c.put_hexadecimal-n.result ≡ length (written k.high k.low)
size c =
    sym (length-take-le c.put_hexadecimal-n.result c.put_hexadecimal-n.new.text (omega (arith, c.put_hexadecimal-n.ensures.within, c.put_hexadecimal-n.auto.text)))
    ∙ ap length (put c)

pub returns-then-out-n : goal.returns-then-out-n
returns-then-out-n c =
    too_long c.args.key c.args.out.now (omega (arith, size (goal.at.returns-then-out-n c).After-put_hexadecimal-n, c.if-out-n.true))

pub returns : goal.returns
returns c =
    let k = c.args.key in
    let b = c.args.out.now in
    fits k b c.put_hexadecimal-n.result _ (size (goal.at.returns c).After-put_hexadecimal-n)
    (c.copy.ensures ∙ ap (λ (x : List ℕ). x ++ drop c.put_hexadecimal-n.result b) (put (goal.at.returns c).After-put_hexadecimal-n))
    (omega (arith, c.if-out-n.false))
