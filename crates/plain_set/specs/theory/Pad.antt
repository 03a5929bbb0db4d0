-- Rows of slots with zeros behind, and laws of lists that the library lacks.
use Rattle.std.specs.Prelude.{◌≡◌, refl, true, List, [], ◌∷◌, ◌++◌, ℕ, zero, suc, ◌+◌, ◌-◌, ◌≤◌, ◌<◌, length, get_or, set, take, drop, eqb}
use Rattle.std.proofs.Common.{sym, ap, ap₂, ◌∙◌, subst, arith, length-append, get_or-drop, eqb-true}
use Rattle.std.proofs.Math.Nat.{sub-zero, zero-sub, suc-sub-suc}
use Rattle.std.proofs.Math.Seq.{take-nil}
use Rattle.std.proofs.lemmas.List.{drop-set-add}
use Rattle.laws.specs.Folds.{all_zero}
use Rattle.laws.specs.Cases.{both_true}
use Rattle.table.specs.Arrays.{padded}

pub length_padded : (n : ℕ) (es : List ℕ) → length (padded n es) ≡ n
length_padded zero es = refl
length_padded (suc n) [] = ap suc (length_padded n [])
length_padded (suc n) (x ∷ es) = ap suc (length_padded n es)

pub take_padded : (n : ℕ) (es : List ℕ) → length es ≤ n → take (length es) (padded n es) ≡ es
take_padded zero [] h = refl
take_padded zero (x ∷ es) h = absurd (omega arith)
take_padded (suc n) [] h = refl
take_padded (suc n) (x ∷ es) h = ap (x ∷◌) (take_padded n es (omega arith))

-- a slot of the block
pub get_or_padded : (n : ℕ) (es : List ℕ) (q : ℕ) → q < n → get_or (padded n es) q 0 ≡ get_or es q 0
get_or_padded zero es q h = absurd (omega arith)
get_or_padded (suc n) [] zero h = refl
get_or_padded (suc n) [] (suc q) h = get_or_padded n [] q (omega arith)
get_or_padded (suc n) (x ∷ es) zero h = refl
get_or_padded (suc n) (x ∷ es) (suc q) h = get_or_padded n es q (omega arith)

-- a full block holds what it can take
pub padded_take : (n : ℕ) (es : List ℕ) → n ≤ length es → padded n es ≡ take n es
padded_take zero es h = take_zero es
  where
    take_zero : (l : List ℕ) → [] ≡ take 0 l
    take_zero [] = refl
    take_zero (x ∷ l) = refl
padded_take (suc n) [] h = absurd (omega arith)
padded_take (suc n) (x ∷ es) h = ap (x ∷◌) (padded_take n es (omega arith))

pub padded_id : (n : ℕ) (es : List ℕ) → length es ≡ n → padded n es ≡ es
padded_id zero [] h = refl
padded_id zero (x ∷ es) h = absurd (omega arith)
padded_id (suc n) [] h = absurd (omega arith)
padded_id (suc n) (x ∷ es) h = ap (x ∷◌) (padded_id n es (omega arith))

-- one slot more
pub padded_append : (n : ℕ) (es : List ℕ) (x : ℕ) → length es < n → padded n (es ++ x ∷ []) ≡ set (padded n es) (length es) x
padded_append zero es x h = absurd (omega arith)
padded_append (suc n) [] x h = refl
padded_append (suc n) (e ∷ es) x h = ap (e ∷◌) (padded_append n es x (omega arith))

pub padded_append_le : (n : ℕ) (es ys : List ℕ) → n ≤ length es → padded n (es ++ ys) ≡ padded n es
padded_append_le zero es ys h = refl
padded_append_le (suc n) [] ys h = absurd (omega arith)
padded_append_le (suc n) (e ∷ es) ys h = ap (e ∷◌) (padded_append_le n es ys (omega arith))

-- a store in the block, and one behind it, which does not show
pub padded_set : (n : ℕ) (es : List ℕ) (p x : ℕ) → p < length es → p < n → padded n (set es p x) ≡ set (padded n es) p x
padded_set zero es p x h l = absurd (omega arith)
padded_set (suc n) [] p x h l = absurd (omega arith)
padded_set (suc n) (e ∷ es) zero x h l = refl
padded_set (suc n) (e ∷ es) (suc p) x h l = ap (e ∷◌) (padded_set n es p x (omega arith) (omega arith))

pub padded_set_out : (n : ℕ) (es : List ℕ) (p x : ℕ) → n ≤ p → padded n (set es p x) ≡ padded n es
padded_set_out zero es p x h = refl
padded_set_out (suc n) [] p x h = refl
padded_set_out (suc n) (e ∷ es) zero x h = absurd (omega arith)
padded_set_out (suc n) (e ∷ es) (suc p) x h = ap (e ∷◌) (padded_set_out n es p x (omega arith))

-- the last slot off: in the block, and behind it
pub padded_init : (n : ℕ) (es : List ℕ) (m : ℕ) → length es ≡ suc m → m < n → padded n (take m es) ≡ set (padded n es) m 0
padded_init zero es m h l = absurd (omega arith)
padded_init (suc n) [] m h l = absurd (omega arith)
padded_init (suc n) (e ∷ []) zero h l = refl
padded_init (suc n) (e ∷ y ∷ es) zero h l = absurd (omega arith)
padded_init (suc n) (e ∷ es) (suc m) h l = ap (e ∷◌) (padded_init n es m (omega arith) (omega arith))

pub padded_init_out : (n : ℕ) (es : List ℕ) (m : ℕ) → n ≤ m → padded n (take m es) ≡ padded n es
padded_init_out zero es m h = refl
padded_init_out (suc n) [] zero h = refl
padded_init_out (suc n) [] (suc m) h = refl
padded_init_out (suc n) (e ∷ es) zero h = absurd (omega arith)
padded_init_out (suc n) (e ∷ es) (suc m) h = ap (e ∷◌) (padded_init_out n es m (omega arith))

-- what is all zeros behind its first n slots is those slots, padded
pub zeros_padded : (es : List ℕ) (n m : ℕ) → length es ≡ m → n ≤ m → all_zero (drop n es) ≡ true → es ≡ padded m (take n es)
zeros_padded [] n zero l h e = refl
zeros_padded [] n (suc m) l h e = absurd (omega arith)
zeros_padded (x ∷ es) n zero l h e = absurd (omega arith)
zeros_padded (x ∷ es) zero (suc m) l h e =
    ap₂ ◌∷◌ (eqb-true x 0 (both_true (eqb x 0) (all_zero es) e).0)
    (zeros_padded es 0 m (omega arith) (omega arith) (both_true (eqb x 0) (all_zero es) e).1)
zeros_padded (x ∷ es) (suc n) (suc m) l h e = ap (x ∷◌) (zeros_padded es n m (omega arith) (omega arith) e)

-- and padding is all zeros
pub padded_zeros : (n : ℕ) (es : List ℕ) → all_zero (drop (length es) (padded n es)) ≡ true
padded_zeros zero [] = refl
padded_zeros zero (x ∷ es) = refl
padded_zeros (suc n) [] = padded_zeros n []
padded_zeros (suc n) (x ∷ es) = padded_zeros n es

module _ {A : Type 0} where
  pub length_snoc : (l : List A) (x : A) → length (l ++ x ∷ []) ≡ suc (length l)
  length_snoc l x = omega (arith, length-append l (x ∷ []))

  pub drop_take : (n m : ℕ) (l : List A) → drop n (take m l) ≡ take (m - n) (drop n l)
  drop_take zero m l = rw sub-zero
  drop_take (suc n) zero l = rw zero-sub
  drop_take (suc n) (suc m) [] = sym (take-nil (suc m - suc n))
  drop_take (suc n) (suc m) (x ∷ l) = rw suc-sub-suc (drop_take n m l)

  pub get_or_drop_ge : (n : ℕ) (l : List A) (i : ℕ) (d : A) → n ≤ i → get_or (drop n l) (i - n) d ≡ get_or l i d
  get_or_drop_ge n l i d h = let e : n + (i - n) ≡ i = omega arith in get_or-drop n l (i - n) d ∙ ap (λ (m : ℕ). get_or l m d) e

  pub drop_set_ge : (n : ℕ) (l : List A) (i : ℕ) (x : A) → n ≤ i → drop n (set l i x) ≡ set (drop n l) (i - n) x
  drop_set_ge n l i x h =
      let e : n + (i - n) ≡ i = omega arith in
      subst (λ (m : ℕ). drop n (set l m x) ≡ set (drop n l) (i - n) x) e (drop-set-add n l (i - n) x)
