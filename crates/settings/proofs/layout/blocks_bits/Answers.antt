-- The product is at most that of the two bounds.
use Rattle.std.proofs.Common.{◌*◌, ◌≤◌, mul-le-mul, arith, rules}
use Rattle.settings.proofs.layout.blocks_bits.Goals as goal
use Rattle.settings.proofs.layout.blocks_bits.Goals.{Start}

most : (c : Start) → c.args.blocks * c.args.block ≤ 65536 * 40836
most c = mul-le-mul c.requires.0 c.requires.1

pub overflow_mul-result : goal.overflow_mul-result
overflow_mul-result c = omega (arith, most (goal.at.overflow_mul-result c).Start)

pub returns : goal.returns
returns c = (search rules, most (goal.at.returns c).Start)
