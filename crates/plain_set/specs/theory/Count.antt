-- Counting in lists: how many elements pass a test, and sums. `count` stands for membership, for "no element twice" and for equality as
-- multisets alike.
use Rattle.std.specs.Prelude.{◌≡◌, refl, ◌≢◌, Bool, true, false, cond, List, [], ◌∷◌, ◌++◌, ℕ, zero, suc, ◌+◌, ◌≤◌, ◌<◌, length, get_or, set, take}
use Rattle.std.proofs.Common.{ap, arith}
use Rattle.laws.specs.Folds.{count, sum_below}
use Rattle.laws.specs.Cases.{cases}
use Rattle.table.specs.theory.Formed.{All, all_nil, all_cons}

-- 1 where the test passes
abbrev pub one : Bool → ℕ
one b = cond b 1 0

pub one_le : (b : Bool) → one b ≤ 1
one_le true = omega arith
one_le false = omega arith

module _ {A : Type 0} where
  -- the values of all elements together
  abbrev pub sum : (A → ℕ) → List A → ℕ
  sum g [] = 0
  sum g (x ∷ xs) = g x + sum g xs

  pub count_append : (f : A → Bool) (xs ys : List A) → count f (xs ++ ys) ≡ count f xs + count f ys
  count_append f [] ys = omega arith
  count_append f (x ∷ xs) ys = omega (arith, count_append f xs ys)

  -- a store trades one element for another
  pub count_set : (f : A → Bool) (xs : List A) (i : ℕ) (v d : A) → i < length xs
      → count f (set xs i v) + one (f (get_or xs i d)) ≡ count f xs + one (f v)
  count_set f [] i v d h = absurd (omega arith)
  count_set f (x ∷ xs) zero v d h = omega arith
  count_set f (x ∷ xs) (suc i) v d h = omega (arith, count_set f xs i v d (omega arith))

  -- the last element off
  pub count_init : (f : A → Bool) (xs : List A) (n : ℕ) (d : A) → length xs ≡ suc n
      → count f xs ≡ count f (take n xs) + one (f (get_or xs n d))
  count_init f [] n d h = absurd (omega arith)
  count_init f (x ∷ []) zero d h = omega arith
  count_init f (x ∷ y ∷ ys) zero d h = absurd (omega arith)
  count_init f (x ∷ []) (suc n) d h = absurd (omega arith)
  count_init f (x ∷ y ∷ ys) (suc n) d h = omega (arith, count_init f (y ∷ ys) n d (omega arith))

  -- an element that passes is counted
  pub count_at : (f : A → Bool) (xs : List A) (i : ℕ) (d : A) → i < length xs → f (get_or xs i d) ≡ true → 0 < count f xs
  count_at f [] i d h e = absurd (omega arith)
  count_at f (x ∷ xs) zero d h e = omega (arith, ap one e)
  count_at f (x ∷ xs) (suc i) d h e = omega (arith, count_at f xs i d (omega arith) e)

  -- tests that agree on a list's elements count alike
  pub count_ext : {P : A → Type 0} (f g : A → Bool) {xs : List A} → All P xs → ((x : A) → P x → f x ≡ g x) → count f xs ≡ count g xs
  count_ext f g all_nil h = refl
  count_ext f g (all_cons {x = x} p ps) h = omega (arith, ap one (h x p), count_ext f g ps h)

  -- a weaker test counts at least as many
  pub count_mono : (f g : A → Bool) (xs : List A) → ((x : A) → f x ≡ true → g x ≡ true) → count f xs ≤ count g xs
  count_mono f g [] h = omega arith
  count_mono f g (x ∷ xs) h =
      cases (f x)
      (λ e. omega (arith, count_mono f g xs h, ap one e, ap one (h x e)))
      (λ e. omega (arith, count_mono f g xs h, ap one e))

  pub count_none : (xs : List A) → count (λ x. false) xs ≡ 0
  count_none [] = refl
  count_none (x ∷ xs) = omega (arith, count_none xs)

  pub count_every : (xs : List A) → count (λ x. true) xs ≡ length xs
  count_every [] = refl
  count_every (x ∷ xs) = omega (arith, count_every xs)

  pub sum_set : (g : A → ℕ) (xs : List A) (i : ℕ) (v d : A) → i < length xs → sum g (set xs i v) + g (get_or xs i d) ≡ sum g xs + g v
  sum_set g [] i v d h = absurd (omega arith)
  sum_set g (x ∷ xs) zero v d h = omega arith
  sum_set g (x ∷ xs) (suc i) v d h = omega (arith, sum_set g xs i v d (omega arith))

  -- one summand, and two at different places, are no more than the sum
  pub sum_at : (g : A → ℕ) (xs : List A) (i : ℕ) (d : A) → i < length xs → g (get_or xs i d) ≤ sum g xs
  sum_at g [] i d h = absurd (omega arith)
  sum_at g (x ∷ xs) zero d h = omega arith
  sum_at g (x ∷ xs) (suc i) d h = omega (arith, sum_at g xs i d (omega arith))

  pub sum_two : (g : A → ℕ) (xs : List A) (i j : ℕ) (d : A) → i < length xs → j < length xs → i ≢ j
      → g (get_or xs i d) + g (get_or xs j d) ≤ sum g xs
  sum_two g [] i j d hi hj ne = absurd (omega arith)
  sum_two g (x ∷ xs) zero zero d hi hj ne = absurd (ne refl)
  sum_two g (x ∷ xs) zero (suc j) d hi hj ne = omega (arith, sum_at g xs j d (omega arith))
  sum_two g (x ∷ xs) (suc i) zero d hi hj ne = omega (arith, sum_at g xs i d (omega arith))
  sum_two g (x ∷ xs) (suc i) (suc j) d hi hj ne = omega (arith, sum_two g xs i j d (omega arith) (omega arith) (λ e. ne (ap suc e)))

-- a list's values by their places
pub sum_below_list : {A : Type 0} (g : A → ℕ) (xs : List A) (d : A) → sum_below (length xs) (λ i. g (get_or xs i d)) ≡ sum g xs
sum_below_list g [] d = refl
sum_below_list g (x ∷ xs) d = omega (arith, sum_below_list g xs d)
