-- The sum turns each of the four digits into its character: `characters_are`.
use native.Mathlib.Omega.{arith}
use mathlib.Core.Path.{ap, ◌∙◌}
use Prim.Native.Nat.{ℕ, ◌+◌, ◌*◌, ◌/◌, ◌%◌}
use lib.Bits.{bit_and}
use Rattle.text_write.specs.theory.Digits.{characters_are}
use Rattle.text_write.proofs.writer.characters.Goals as goal

pub returns : goal.returns
returns c =
    let g = c.args.group in
    ap (λ (x : ℕ). x + 808464432 + bit_and ((x + 101058054) / 16) 16843009 * 39) c.digits-x.ensures
    ∙ characters_are (g / 4096) (g / 256 % 16) (g / 16 % 16) (g % 16) (omega arith) (omega arith) (omega arith) (omega arith)
