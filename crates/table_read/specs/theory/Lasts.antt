-- Laws of a list's end as `follow` answers it: in a block, or nowhere.
use Rattle.std.specs.Prelude.{◌≡◌, true, ℕ, ◌≤◌, ◌<◌, ltb, Ok, Err}
use Rattle.std.proofs.Common.{ap, arith}
use Rattle.std.specs.declared.result.Result.{Result}
use borrow.Author.Tests.{lt-ltb, le-ltb, ltb-true, ltb-false}
use Rattle.laws.specs.Cases.{cases}
use Rattle.keys.specs.declared.BlockNumber.{BlockNumber}
use Rattle.settings.specs.declared.layout.Layout.{Layout}
use Rattle.table_read.specs.Steps.{last_as}
use Rattle.table.specs.declared.damage.Damage.{Damage}

module _ (g : Layout) where
  pub last_block : (b : BlockNumber) → b.0 < g.nob → Ok b ≡ last_as g b.0
  unfolding last_as
  last_block b h = rw (lt-ltb b.0 g.nob h)

  pub last_none : (b : ℕ) → g.nob ≤ b → Err (record {}) ≡ last_as g b
  unfolding last_as
  last_none b h = rw (le-ltb b g.nob h)

  -- l is the block b
  pub record EndsAt (l : ℕ) (b : BlockNumber) : Type 0 where
    pub is : b.0 ≡ l
    pub low : b.0 < g.nob

  not_block : {X : Type 0} (b : BlockNumber) {d : Damage} → Err d ≡ Ok b → X
  not_block b e = absurd (let z : ◌≡◌ {A = ℕ} 0 1 = cc in omega arith)

  ends_when : (l : ℕ) (b : BlockNumber) → ltb l g.nob ≡ true → ◌≡◌ {A = Result BlockNumber Damage} (Ok (record { 0 = l })) (Ok b) → EndsAt l b
  ends_when l b p e =
      let z : b ≡ record { 0 = l } = cc in
      let k : b.0 ≡ l = ap (λ (x : BlockNumber). x.0) z in
      record { is = k; low = omega (arith, ltb-true l g.nob p) }

  pub ends_at : (l : ℕ) (b : BlockNumber) → last_as g l ≡ Ok b → EndsAt l b
  unfolding last_as
  ends_at l b = cases (ltb l g.nob) (λ p. rw p (ends_when l b p)) (λ p. rw p (not_block b))

  not_damage : {X : Type 0} (b : BlockNumber) {d : Damage} → Ok b ≡ Err d → X
  not_damage b e = absurd (let z : ◌≡◌ {A = ℕ} 0 1 = cc in omega arith)

  pub no_end : (l : ℕ) {d : Damage} → last_as g l ≡ Err d → g.nob ≤ l
  unfolding last_as
  no_end l {d} = cases (ltb l g.nob) (λ p. rw p (not_damage _)) (λ p. rw p (λ e. omega (arith, ltb-false l g.nob p)))
