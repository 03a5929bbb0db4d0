-- Numbers pushed in front of those that were read, where all of them are there.
use Rattle.std.specs.Prelude.{◌≡◌, refl, List, ◌∷◌, ℕ}
use Rattle.std.proofs.Math.Option.{Option, none, some}
use Rattle.laws.specs.Options.{nothing}
use Rattle.text_read.specs.Reading.{push}

-- one more in front: both were there
pub push_some : (o : Option ℕ) (r : Option (List ℕ)) (l : List ℕ) → push o r ≡ some l
    → (v : ℕ) × (m : List ℕ) × (o ≡ some v) × (r ≡ some m) × (v ∷ m ≡ l)
unfolding push
push_some none r l e = nothing e
push_some (some v) none l e = nothing e
push_some (some v) (some m) l e = (v, m, refl, refl, cc)

-- in front of nothing, there is nothing
pub push_none : (o : Option ℕ) → push o none ≡ none
unfolding push
push_none none = refl
push_none (some v) = refl
