-- A high half other than 0 makes the first 96 bits more than ffff.
use mathlib.Core.Path.{◌≡◌, sym, ap}
use Prim.Native.Nat.{◌+◌, ◌*◌, ◌/◌, ◌^◌}
use native.Mathlib.Omega.{arith}
use lib.Dec.{eqb}
use borrow.Author.Tests.{ne_eqb}
use Rattle.text_write.specs.Writing.{is_mapped}
use Rattle.text_write.proofs.mapped.is_mapped.Goals as goal

pub returns-then-key-ne0 : goal.returns-then-key-ne0
unfolding is_mapped
returns-then-key-ne0 c =
    let k = c.args.key in
    let h = c.if-key-ne0.true in
    sym (ne_eqb ((k.high * 2 ^ 64 + k.low) / 2 ^ 32) 65535 (λ e. omega arith))

pub returns : goal.returns
unfolding is_mapped
returns c =
    let k = c.args.key in
    let h = c.if-key-ne0.false in
    let z : k.low / 4294967296 ≡ (k.high * 2 ^ 64 + k.low) / 2 ^ 32 = omega arith in
    ap (λ x. eqb x 65535) z
