-- The product is at most that of the two bounds.
use Rattle.std.proofs.Common.{◌*◌, ◌≤◌, mul-le-mul, arith, rules}
use Rattle.settings.proofs.layout.block_bits.Goals as goal
use Rattle.settings.proofs.layout.block_bits.Goals.{Start}

most : (c : Start) → c.args.slots * c.args.slot ≤ 255 * 160
most c = mul-le-mul c.requires.1 c.requires.2

pub overflow_mul-result : goal.overflow_mul-result
overflow_mul-result c = omega (arith, most (goal.at.overflow_mul-result c).Start)

pub overflow_add-result : goal.overflow_add-result
overflow_add-result c = omega (arith, most (goal.at.overflow_add-result c).Start)

pub returns : goal.returns
returns c = (search rules, omega (arith, most (goal.at.returns c).Start))
