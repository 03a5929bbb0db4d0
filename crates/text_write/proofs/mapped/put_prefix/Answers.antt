-- The second store leaves three bytes of the first.
use mathlib.Core.Path.{◌≡◌, sym, ap, ◌∙◌}
use mathlib.Core.List.{List, [], ◌∷◌, ◌++◌}
use Prim.Native.Nat.{ℕ}
use native.Mathlib.Omega.{arith}
use lib.ListN.{take}
use lib.Seq.{take-take}
use Rattle.text_write.specs.Ascii.{ascii}
use Rattle.text_write.specs.theory.Stores.{kept_later}
use Rattle.text_write.proofs.mapped.put_prefix.Goals as goal

pub returns : goal.returns
unfolding ascii
returns c =
    let o = c.args.text.now in
    let t = c.put_four.new.text in
    let three : take 3 t ≡ 58 ∷ 58 ∷ 102 ∷ [] = sym (take-take 3 4 t (omega arith)) ∙ ap (take 3) c.put_four.ensures.is in
    record {
      within = omega arith;
      is = c.put_four-2.ensures.is ∙ ap (λ (l : List ℕ). l ++ 102 ∷ 102 ∷ 102 ∷ 58 ∷ []) three;
      kept = c.put_four-2.ensures.kept ∙ kept_later o t 4 7 (omega arith) c.put_four.ensures.kept;
    }
