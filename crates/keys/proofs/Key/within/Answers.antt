-- By the word in which bit w lies.
use mathlib.Core.Path.{sym}
use Prim.Native.Nat.{◌^◌, ◌<◌}
use native.Mathlib.Omega.{arith}
use borrow.Author.Tests.{lt-ltb}
use Rattle.keys.specs.Key.{key_number}
use Rattle.keys.specs.theory.Keys.{key_below}
use Rattle.keys.specs.theory.Halves.{below_high, below_low}
use Rattle.keys.proofs.Key.within.Goals as goal
use Rattle.keys.proofs.Key.within.Goals.{Start}

fits : (s : Start) → (s.args.self.high < 2 ^ 64) × (s.args.self.low < 2 ^ 64)
fits s = omega arith

pub returns-then-w-eq128 : goal.returns-then-w-eq128
returns-then-w-eq128 c =
    let f = fits (goal.at.returns-then-w-eq128 c).Start in
    rw c.if-w-eq128.true (sym (lt-ltb (key_number c.args.self) (2 ^ 128) (key_below c.args.self f.0 f.1)))

pub returns-then-w-ge64 : goal.returns-then-w-ge64
unfolding key_number
returns-then-w-ge64 c =
    rw c.pow.ensures (below_high c.args.self.high (fits (goal.at.returns-then-w-ge64 c).Start).1 c.if-w-ge64.true)

pub returns : goal.returns
unfolding key_number
returns c =
    rw c.pow-2.ensures (below_low c.args.self.high (fits (goal.at.returns c).Start).1 (omega arith))
