-- The shift loses no bit.
use Prim.Native.Nat.{◌*◌}
use mathlib.Core.Path.{◌∙◌}
use native.Mathlib.Nat.{one-mul}
use native.Mathlib.Omega.{arith}
use lib.Pow.{shl_exact}
use Rattle.text_read.proofs.Joined.{power_bits}
use Rattle.text_read.proofs.groups.power.Goals as goal

pub returns : goal.returns
returns c = shl_exact 1 (16 * c.args.n) 64 (omega arith) (omega arith) ∙ one-mul _ ∙ power_bits c.args.n
