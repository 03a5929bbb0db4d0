-- The place of an entry in a row of slots, against a count of the slots that have it.
use Rattle.std.specs.Prelude.{◌≡◌, Bool, true, length, get_or, eqb}
use Rattle.std.proofs.Math.Path.{refl}
use mathlib.Core.List.{List, [], ◌∷◌}
use Prim.Native.Nat.{ℕ, suc, ◌≤◌, ◌<◌}
use Rattle.std.proofs.Common.{arith}
use Rattle.laws.specs.Folds.{count}
use Rattle.laws.specs.Cases.{cases}
use Rattle.settings.specs.declared.layout.Layout.{Layout}
use Rattle.table.specs.State.{entry_of}
use Rattle.table.specs.Find.{position}

-- the test for an entry
abbrev pub is_entry : Layout → ℕ → ℕ → Bool
is_entry g e x = eqb (entry_of g x) e

module _ (g : Layout) where
  -- at the place of an entry that a list has, stands the entry
  pub position_held : (e : ℕ) (es : List ℕ) (d : ℕ) → position g e es < length es → is_entry g e (get_or es (position g e es) d) ≡ true
  unfolding position
  position_held e [] d h = absurd (omega arith)
  position_held e (x ∷ es) d h =
      cases (is_entry g e x) (λ q. rw q q)
      (λ q. let below : suc (position g e es) < suc (length es) = rw q at h in rw q (position_held e es d (omega arith)))

  -- where there is no place, no slot has the entry
  pub position_none : (e : ℕ) (es : List ℕ) → length es ≤ position g e es → count (is_entry g e) es ≡ 0
  unfolding position
  position_none e [] h = refl
  position_none e (x ∷ es) h =
      cases (is_entry g e x) (λ q. absurd (let none : suc (length es) ≤ 0 = rw q at h in omega arith))
      (λ q.
      let past : suc (length es) ≤ suc (position g e es) = rw q at h in
      rw q (omega (arith, position_none e es (omega arith))))
