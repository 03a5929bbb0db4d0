-- Laws of one step along a list: what it tells of the block that says it, and what the block tells of it.
use Rattle.std.specs.Prelude.{◌≡◌, refl, ◌⊎◌, ℕ, ◌<◌, eqb, ltb}
use Rattle.std.proofs.Common.{sym, subst, ◌∙◌, ⊎_elim, arith}
use borrow.Author.Tests.{eq-eqb, ne_eqb, lt-ltb, le-ltb, eqb-true, eqb-false, ltb-true, ltb-false}
use Rattle.laws.specs.Cases.{cases}
use Rattle.keys.specs.declared.BlockNumber.{BlockNumber}
use Rattle.table.specs.Follow.{further, step_of}
use Rattle.table.specs.declared.step.Step.{Step}
use Rattle.table.specs.declared.step.Step.TheVariants.{Last, Further, Damage}

module _ (sio c l : ℕ) where
  pub step_last : c < sio → step_of sio c l ≡ Last
  unfolding step_of
  step_last h = rw (lt-ltb c sio h)

  pub step_further : c ≡ sio → step_of sio c l ≡ further l
  unfolding step_of
  step_further h = rw (le-ltb c sio (omega arith), eq-eqb c sio h)

  pub step_damage : sio < c → step_of sio c l ≡ Damage
  unfolding step_of
  step_damage h = rw (le-ltb c sio (omega arith), ne_eqb c sio (λ e. omega arith))

  pub data Way : Step → Type 0 where
    ends : c < sio → Way Last
    goes : c ≡ sio → Way (further l)
    breaks : sio < c → Way Damage

  pub way : Way (step_of sio c l)
  unfolding step_of
  way =
      cases (ltb c sio)
      (λ p. rw p (ends (ltb-true c sio p)))
      (λ p. cases (eqb c sio)
      (λ q. rw (p, q) (goes (eqb-true c sio q)))
      (λ q. rw (p, q) (breaks (omega (arith, ltb-false c sio p, eqb-false c sio q)))))

  of_last : Way Last → c < sio
  of_last (ends h) = h

  -- a full block, and the next one is b
  pub record Goes (b : BlockNumber) : Type 0 where
    pub full : c ≡ sio
    pub link : b.0 ≡ l

  of_further : {b : BlockNumber} → Way (Further b) → Goes b
  of_further (goes h) = record { full = h; link = refl }

  of_damage : Way Damage → sio < c
  of_damage (breaks h) = h

  -- what a step s tells
  module _ (s : Step) (is : s ≡ step_of sio c l) where
    pub told_last : s ≡ Last → c < sio
    told_last e = of_last (subst Way (sym is ∙ e) way)

    pub told_further : (b : BlockNumber) → s ≡ Further b → Goes b
    told_further b e = of_further (subst Way (sym is ∙ e) way)

    pub told_damage : s ≡ Damage → sio < c
    told_damage e = of_damage (subst Way (sym is ∙ e) way)

    -- where its tag is one of two, each shown not to be a further one's
    pub told_other : {P Q : Type 0} → (s ≡ further l → P → ⊥) → (s ≡ further l → Q → ⊥) → P ⊎ Q → c ≡ sio → ⊥
    told_other f h t e = ⊎_elim (f (is ∙ step_further e)) (h (is ∙ step_further e)) t
