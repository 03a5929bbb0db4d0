-- The difference wraps exactly at 0, and the largest number is not below p - 1.
use Rattle.std.proofs.Common.{◌≡◌, ℕ, ◌+◌, ◌-◌, ◌%◌, ◌^◌, ◌<◌, ◌&&◌, ltb, leb, arith, le-ltb, leb-false, leb-true}
use Rattle.laws.specs.Cases.{cases}
use Rattle.laws.specs.Tests.{ltb_iff}
use Rattle.settings.proofs.settings.below.Goals as goal

-- r is x - 1, or the largest number for 0
same : (r x p : ℕ) → r < 2 ^ 32 → p < 2 ^ 32 → (r + 1) % 2 ^ 32 ≡ x → ltb r (p - 1) ≡ (leb 1 x && ltb x p)
same r x p small fits e =
    cases (leb 1 x)
    (λ t. let l = leb-true 1 x t in rw t (ltb_iff r (p - 1) x p (λ h. omega arith) (λ h. omega arith)))
    (λ f. let l = leb-false 1 x f in rw f (le-ltb r (p - 1) (omega arith)))

pub returns : goal.returns
returns c = same c.wrapping_sub_u32.result _ _ (omega arith) (omega arith) c.wrapping_sub_u32.ensures.value
