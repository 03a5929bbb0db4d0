-- The fields between separators: how `split` finds them, and how the text is made of them.
use Rattle.std.specs.Prelude.{◌≡◌, refl, false, List, [], ◌∷◌, ◌++◌, ℕ, eqb}
use Rattle.std.proofs.Common.{eq-eqb, eqb-true}
use Rattle.laws.specs.Cases.{cases}
use Rattle.text_read.specs.Class.{class_of}
use Rattle.text_read.specs.Reading.{split, on_first}
use Rattle.text_read.specs.theory.Bytes.{Separator, separator_class, class_separator}

-- no byte of the text is of class k
abbrev pub Without : ℕ → List ℕ → Type 0
Without k [] = Unit {0}
Without k (x ∷ s) = (eqb (class_of x) k ≡ false) × Without k s

-- nor of two texts one after the other
pub without_append : (k : ℕ) (s t : List ℕ) → Without k s → Without k t → Without k (s ++ t)
without_append k [] t a b = b
without_append k (x ∷ s) t a b = (a.0, without_append k s t a.1 b)

-- a text without separators is one field
pub split_one : (k : ℕ) (s : List ℕ) → Without k s → split k s ≡ s ∷ []
unfolding split on_first
split_one k [] w = refl
split_one k (x ∷ s) w = rw (w.0, split_one k s w.1)

-- a field ends where a separator stands
pub split_more : {c k : ℕ} → Separator c k → (s t : List ℕ) → Without k s → split k (s ++ c ∷ t) ≡ s ∷ split k t
unfolding split on_first
split_more {c} {k} p [] t w = rw (eq-eqb (class_of c) k (separator_class p))
split_more {c} {k} p (x ∷ s) t w = rw (w.0, split_more p s t w.1)

-- the text whose fields these are, with the byte c between them
pub data Fields (c : ℕ) : List ℕ → List (List ℕ) → Type 0 where
  last : {s : List ℕ} → Fields c s (s ∷ [])
  then : {s t : List ℕ} {fs : List (List ℕ)} → Fields c t fs → Fields c (s ++ c ∷ t) (s ∷ fs)

-- the fields of a text, with separators between them, are the text
pub split_fields : {c k : ℕ} → Separator c k → (s : List ℕ) → Fields c s (split k s)
unfolding split on_first
split_fields p [] = last
split_fields {c} {k} p (x ∷ s) =
    cases (eqb (class_of x) k)
    (λ e. rw e (let q : x ≡ c = class_separator p x (eqb-true (class_of x) k e) in rw q (then {s = []} (split_fields p s))))
    (λ e. rw e (longer (split_fields p s)))
  where
    longer : {s : List ℕ} {fs : List (List ℕ)} → Fields c s fs → Fields c (x ∷ s) (on_first x fs)
    longer last = last
    longer (then {s = s} r) = then {s = x ∷ s} r
