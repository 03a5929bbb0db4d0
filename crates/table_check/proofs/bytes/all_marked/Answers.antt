-- Every bit in the range is a one.
use mathlib.Core.Path.{◌≡◌, ap, ◌∙◌}
use Prim.Native.Nat.{ℕ, ◌+◌}
use native.Mathlib.Omega.{arith}
use lib.Dec.{eqb}
use borrow.Author.Tests.{tests}
use Rattle.std.proofs.Common.{rules}
use Rattle.std.proofs.lemmas.Iterator.{YieldsList-from_range}
use Rattle.std.proofs.lemmas.Iterator.Search.{all_from_yields_List}
use Rattle.bits.specs.Field.{field}
use Rattle.table_check.proofs.Zeros.{all_in_range}
use Rattle.table_check.proofs.bytes.all_marked.Goals as goal

pub returns : goal.returns
returns c =
    let f = λ (j : ℕ). eqb (field c.args.s.now j 1) 1 in
    all_from_yields_List f _ _ _ c.all.ensures.ran (YieldsList-from_range 0 c.args.n c.args.n (cc) (omega arith)) (λ x b q k. search (rules, tests))
    ∙ all_in_range f f 0 c.args.n (λ i. let e : 0 + i ≡ i = omega arith in ap f e)
