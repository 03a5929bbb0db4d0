-- A key of 128 bits cut to 128 - bii bits is its entry, and an entry is cut nowhere.
use mathlib.Core.Path.{◌≡◌, sym, ap, ◌∙◌}
use Prim.Native.Nat.{ℕ, ◌-◌, ◌%◌, ◌^◌}
use native.Mathlib.Nat.{mod-lt}
use lib.Pow.{pow_pos}
use Rattle.settings.specs.Sizes.{bie}
use Rattle.keys.specs.Key.{key_number, hash}
use Rattle.keys.specs.theory.Keys.{entry_whole}
use Rattle.keys.proofs.Key.hash.Goals as goal

pub returns-then-s-eq128 : goal.returns-then-s-eq128
unfolding key_number hash
returns-then-s-eq128 c =
    let a = c.args in
    let w : 128 - a.s.bii ≡ bie a.s = ap (λ (n : ℕ). n - a.s.bii) (sym c.if-s-eq128.true) in
    c.hash_of.ensures ∙ ap (hash a.s) (ap (λ (n : ℕ). key_number a.self % 2 ^ n) w ∙ sym c.requires.1)

pub returns : goal.returns
unfolding key_number hash
returns c =
    let a = c.args in
    c.hash_of-2.ensures ∙ ap (hash a.s) (entry_whole c.requires.0 (rw c.requires.1 (mod-lt _ (pow_pos (bie a.s)))))
