-- Laws of the least number with a property.
use Rattle.std.specs.Prelude.{◌≡◌, ℕ, zero, suc, ◌+◌, ◌<◌, ◌≤◌, Bool, true, false, ◌≢◌, refl}
use Rattle.std.proofs.Common.{sym, ap, ◌∙◌, true≢false, ⊎_elim, eq-or-lt_of_le}
use Rattle.std.proofs.Math.Nat.{le_refl}
use native.Mathlib.Omega.{arith}
use Rattle.std.proofs.Math.Arith.{lt_of_le-ne}
use Rattle.laws.specs.Cases.{cases}
use Rattle.settings.specs.Least.{least_from}

module _ (P : ℕ → Bool) where
  apart : (k m : ℕ) → P k ≡ false → P m ≡ true → k ≢ m
  apart k m f t e = true≢false (sym t ∙ ap P (sym e) ∙ f)

  pub least_from_lem : (turns from : ℕ) → from ≤ least_from P turns from
  unfolding least_from
  least_from_lem zero from = le_refl from
  least_from_lem (suc turns) from =
      cases (P from) (λ e. rw e (le_refl from)) (λ e. rw e (let h = least_from_lem turns (suc from) in omega arith))

  pub least_le : (turns from m : ℕ) → P m ≡ true → from ≤ m → least_from P turns from ≤ m
  unfolding least_from
  least_le zero from m h l = l
  least_le (suc turns) from m h l =
      cases (P from) (λ e. rw e l) (λ e. rw e (least_le turns (suc from) m h (lt_of_le-ne l (apart from m e h))))

  pub least_holds : (turns from m : ℕ) → from ≤ m → m ≤ from + turns → P m ≡ true → P (least_from P turns from) ≡ true
  unfolding least_from
  least_holds zero from m l u h = let e : from ≡ m = omega arith in rw e h
  least_holds (suc turns) from m l u h =
      cases (P from) (λ e. rw e e)
      (λ e. rw e (least_holds turns (suc from) m (lt_of_le-ne l (apart from m e h)) (omega arith) h))

  pub least_at : (turns from m : ℕ) → from ≤ m → m ≤ from + turns → P m ≡ true
      → ((k : ℕ) → from ≤ k → k < m → P k ≡ false) → least_from P turns from ≡ m
  least_at turns from m l u h none =
      ⊎_elim (λ e. e)
      (λ q. absurd (apart _ _ (none (least_from P turns from) (least_from_lem turns from) q) (least_holds turns from m l u h) refl))
      (eq-or-lt_of_le (least_le turns from m h l))
