-- Pages joined are all records, each once.
use Rattle.std.specs.Prelude.{◌≡◌, length, drop}
use Rattle.std.proofs.Math.Path.{refl, sym, ap, ap₂}
use Rattle.std.proofs.Common.{◌∙◌, take_all, take-add, eq-eqb, ne_eqb}
use mathlib.Core.List.{List, ◌++◌}
use Prim.Native.Nat.{ℕ, zero, suc, ◌+◌, ◌-◌, ◌*◌, ◌/◌, ◌≤◌, ◌<◌}
use native.Mathlib.Omega.{arith}
use Rattle.std.proofs.Math.Numerals.{unary_clauses}
use Rattle.std.proofs.Math.ListN.{take, length-take, length-drop}
use Rattle.std.proofs.Math.Seq.{length-take-le}
use Rattle.plain_set.specs.Rebuilt.{Pair}
use Rattle.text_sheet.specs.Pages.{page_count, pairs_on}
use Rattle.text_sheet.specs.Claim.{joined, Whole}

-- How many pages there are ------------------------------------------------------------------------------------------------

pub count_none : (n : ℕ) → n ≡ 0 → page_count n ≡ 1
unfolding page_count
count_none n h = rw (eq-eqb n 0 h)

pub count_some : (n : ℕ) → 0 < n → page_count n ≡ (n + 39) / 40
unfolding page_count
count_some n h = rw (ne_eqb n 0 (λ e. omega arith))

pub count_bounds : (n : ℕ) → (n ≤ 40 * page_count n) × (1 ≤ page_count n)
count_bounds zero = rw (count_none 0 refl) (omega arith, omega arith)
count_bounds (suc n) = rw (count_some (suc n) (omega arith)) (omega arith, omega arith)

pub count_least : (n : ℕ) → 0 < n → 40 * page_count n < n + 40
count_least n h = rw (count_some n h) (omega arith)

-- The records of the pages ------------------------------------------------------------------------------------------------

module _ (ps : List Pair) where
  pub joined_first : (n : ℕ) → joined ps n ≡ take (40 * n) ps
  unfolding pairs_on
  joined_first zero = refl
  joined_first (suc n) =
      let a : pairs_on ps (suc n) ≡ take 40 (drop (40 * n) ps) = simp unary_clauses refl in
      let b : 40 * n + 40 ≡ 40 * suc n = omega arith in
      ap₂ ◌++◌ (joined_first n) a
      ∙ sym (take-add (40 * n) 40 ps)
      ∙ ap (λ (x : ℕ). take x ps) b

  on_page : (k : ℕ) → length (pairs_on ps k) ≤ 40
  unfolding pairs_on
  on_page k = omega (arith, length-take 40 (drop (40 * (k - 1)) ps))

  on_full : (k : ℕ) → 40 * (k - 1) + 40 ≤ length ps → length (pairs_on ps k) ≡ 40
  unfolding pairs_on
  on_full k h = length-take-le 40 (drop (40 * (k - 1)) ps) (omega (arith, length-drop (40 * (k - 1)) ps))

  on_some : (k : ℕ) → 40 * (k - 1) < length ps → 0 < length (pairs_on ps k)
  unfolding pairs_on
  on_some k h = omega (arith, length-take 40 (drop (40 * (k - 1)) ps), length-drop (40 * (k - 1)) ps)

  pub whole : Whole ps
  whole =
      let c = count_bounds (length ps) in
      record {
        all = joined_first (page_count (length ps)) ∙ take_all (40 * page_count (length ps)) ps c.0;
        full = λ k h l. on_full k (few k h l);
        most = on_page;
        one = count_none (length ps);
        some = λ h k a b. on_some k (omega (arith, count_least (length ps) h));
      }
    where
      few : (k : ℕ) → 1 ≤ k → k < page_count (length ps) → 40 * (k - 1) + 40 ≤ length ps
      few k h l = go (length ps) refl
        where
          go : (n : ℕ) → length ps ≡ n → 40 * (k - 1) + 40 ≤ length ps
          go zero e = absurd (omega (arith, count_none (length ps) e))
          go (suc n) e = omega (arith, count_least (length ps) (omega arith))
