-- Lists by places, with the next place written as code writes it: i + 1.
use Rattle.std.specs.Prelude.{◌≡◌, refl, List, [], ◌∷◌, ◌++◌, ℕ, zero, suc, ◌+◌, ◌<◌, length, get_or, take, drop, set, replicate}
use Rattle.std.proofs.Common.{add-one, drop-cons, take-suc-set}

module _ {A : Type 0} where
  -- from place i on stands what is at i, and what is behind it
  pub drop_next : (l : List A) (i : ℕ) (d : A) → i < length l → drop i l ≡ get_or l i d ∷ drop (i + 1) l
  drop_next l i d h = rw (add-one, drop-cons l i d)

  -- a store at place i ends the first i + 1
  pub take_stored : (l : List A) (i : ℕ) (a : A) → i < length l → take (i + 1) (set l i a) ≡ take i l ++ a ∷ []
  take_stored l i a h = rw add-one (take-suc-set l i a h)

  -- one value repeated, at any place, past its end too
  pub replicate_at : (n i : ℕ) (a : A) → get_or (replicate n a) i a ≡ a
  replicate_at zero i a = refl
  replicate_at (suc n) zero a = refl
  replicate_at (suc n) (suc i) a = replicate_at n i a
