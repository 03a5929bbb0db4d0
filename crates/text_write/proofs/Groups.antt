-- The eight groups of a key, each by its place.
use mathlib.Core.Path.{◌≡◌, refl}
use Prim.Native.Nat.{ℕ, zero, suc, ◌-◌, ◌*◌, ◌/◌, ◌%◌, ◌^◌, ◌≤◌, ◌<◌}
use native.Mathlib.Omega.{arith}
use lib.ListN.{length, get_or}
use Rattle.keys.specs.declared.Key.{Key}
use Rattle.text_write.specs.Writing.{four_groups}
use Rattle.text_write.specs.WriterSteps.{key_groups}

pub eight : (k : Key) → length (key_groups k) ≡ 8
unfolding key_groups four_groups
eight k = refl

module _ (k : Key) where
  pub group_high : (i : ℕ) → i < 4 → k.high < 2 ^ 64 → k.high / 2 ^ (48 - 16 * i) % 65536 ≡ get_or (key_groups k) i 0
  unfolding key_groups four_groups
  group_high zero h l = omega arith
  group_high (suc zero) h l = refl
  group_high (suc (suc zero)) h l = refl
  group_high (suc (suc (suc zero))) h l = omega arith
  group_high (suc (suc (suc (suc i)))) h l = absurd (let z : ⊥ = omega arith in z)

  pub group_low : (i : ℕ) → 4 ≤ i → i < 8 → k.low < 2 ^ 64 → k.low / 2 ^ (112 - 16 * i) % 65536 ≡ get_or (key_groups k) i 0
  unfolding key_groups four_groups
  group_low zero g h l = absurd (let z : ⊥ = omega arith in z)
  group_low (suc zero) g h l = absurd (let z : ⊥ = omega arith in z)
  group_low (suc (suc zero)) g h l = absurd (let z : ⊥ = omega arith in z)
  group_low (suc (suc (suc zero))) g h l = absurd (let z : ⊥ = omega arith in z)
  group_low (suc (suc (suc (suc zero)))) g h l = omega arith
  group_low (suc (suc (suc (suc (suc zero))))) g h l = refl
  group_low (suc (suc (suc (suc (suc (suc zero)))))) g h l = refl
  group_low (suc (suc (suc (suc (suc (suc (suc zero))))))) g h l = omega arith
  group_low (suc (suc (suc (suc (suc (suc (suc (suc i)))))))) g h l = absurd (let z : ⊥ = omega arith in z)
