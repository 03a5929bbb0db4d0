-- Blocks of slots: parts of them, and what their being within the bytes says of a slot.
use Rattle.std.specs.Prelude.{◌≡◌, ℕ, zero, suc, ◌+◌, ◌-◌, ◌*◌, ◌≤◌, ◌<◌, List, length}
use Rattle.std.proofs.Common.{sym, ap, ◌∙◌, arith, mul-le-mul_right}
use Rattle.settings.specs.Legal.{most_bits}
use Rattle.bits.specs.Field.{field}
use Rattle.table_read.specs.Steps.{First}
use Rattle.table_read.specs.Rows.{Row}

module _ (t : List ℕ) (start slot bie room : ℕ) (r : Row t start slot bie room) where
  -- fewer slots of the block
  pub fewer : (count : ℕ) → count ≤ room → Row t start slot bie count
  fewer count h =
      let m = mul-le-mul_right slot h in
      record {
        ends = omega (arith, r.ends);
        near = omega (arith, r.near);
        few = omega (arith, r.few);
        some = r.some;
        wide = r.wide;
        fits = r.fits;
        slim = r.slim;
      }

  -- the entry of one of them is within the bytes
  pub entry_inside : (j : ℕ) → j < room → (start + j * slot + bie ≤ 8 * length t) × (start + j * slot + bie ≤ most_bits)
  entry_inside j h =
      let m = mul-le-mul_right slot h in
      (omega (arith, r.ends, r.fits), omega (arith, r.near, r.fits))

-- where no slot has the bits, the first that has them is none
pub none_first : (t : List ℕ) (at step n q count r : ℕ) → ((k : ℕ) → k < r → field t (at + k * step) n ≡ q → ⊥) → count ≤ r → First t at step n q count count
none_first t at step n q count r before h = record { high = omega arith; before = λ k l. before k (omega arith); found = λ l. absurd (omega arith) }

-- the slots behind slot 0
behind_at : (start slot n : ℕ) → 0 < n → start + slot + (n - 1) * slot ≡ start + n * slot
behind_at start slot zero h = absurd (omega arith)
behind_at start slot (suc n) h = let e : suc n - 1 ≡ n = omega arith in rw e (omega arith)

pub behind : (t : List ℕ) (start slot bie room : ℕ) → Row t start slot bie room → 0 < room → Row t (start + slot) slot bie (room - 1)
behind t start slot bie room r h =
    let e = behind_at start slot room h in
    record {
      ends = omega (arith, r.ends);
      near = omega (arith, r.near);
      few = omega (arith, r.few);
      some = r.some;
      wide = r.wide;
      fits = r.fits;
      slim = r.slim;
    }

-- what is found behind slot 0, which does not hold the number; u has the slots behind it as t has them
module _ (t u : List ℕ) (start slot bie q count r : ℕ) where
  pub found_behind : (field u start bie ≡ q → ⊥) → 0 < count
      → ((k : ℕ) → 0 < k → k < count → field u (start + k * slot) bie ≡ field t (start + k * slot) bie)
      → First t (start + slot) slot bie q (count - 1) r → First u start slot bie q count (1 + r)
  found_behind d h same f =
      record {
        high = omega (arith, f.high);
        before = passed;
        found = λ l.
            same (1 + r) (omega arith) l
            ∙ ap (λ (x : ℕ). field t x bie) (omega arith)
            ∙ f.found (omega arith);
      }
    where
      passed : (k : ℕ) → k < 1 + r → field u (start + k * slot) bie ≡ q → ⊥
      passed zero l e = let z : start + 0 * slot ≡ start = omega arith in d (rw z at e)
      passed (suc k) l e =
          f.before k (omega arith)
          (ap (λ (x : ℕ). field t x bie) (omega arith) ∙ sym (same (suc k) (omega arith) (omega (arith, f.high))) ∙ e)
