-- Laws of the fields between spaces.
use Rattle.std.specs.Prelude.{◌≡◌, true, List, [], ◌∷◌, ◌++◌, take, drop}
use Rattle.std.proofs.Math.Path.{refl}
use Rattle.std.proofs.Common.{sym, ap, ◌∙◌, true≢false, eqb-true}
use Rattle.std.proofs.Math.Bool.{false}
use Prim.Native.Nat.{ℕ, suc, ◌<◌}
use native.Mathlib.Omega.{arith}
use Rattle.std.proofs.Math.ListN.{length}
use Rattle.std.proofs.Math.Dec.{eqb, eqb-zero-suc, eqb-suc-suc}
use Rattle.std.proofs.lemmas.Bool.{eqb-false}
use Rattle.laws.specs.Cases.{cases}
use Rattle.text_read.specs.Reading.{on_first}
use Rattle.program_lines.specs.Ends.{before}
use Rattle.program_lines.specs.theory.Ends.{before_le}
use Rattle.program_commands.specs.Fields.{space, fields}
use Rattle.program_commands.specs.Steps.{spaceless}

-- Texts without a space ------------------------------------------------------------------------------------------------

pub spaceless_nil : spaceless [] ≡ true
unfolding spaceless before
spaceless_nil = refl

module _ (b : ℕ) (x : List ℕ) where
  -- a byte that is no space in front
  pub spaceless_other : eqb b space ≡ false → spaceless (b ∷ x) ≡ spaceless x
  unfolding spaceless before
  spaceless_other e = rw e (eqb-suc-suc (before space x) (length x))

  -- a space in front
  pub spaceless_space : eqb b space ≡ true → spaceless (b ∷ x) ≡ false
  unfolding spaceless before
  spaceless_space e = rw e (eqb-zero-suc (length x))

  -- no space in front, and none behind it
  pub spaceless_both : spaceless (b ∷ x) ≡ true → (eqb b space ≡ false) × (spaceless x ≡ true)
  spaceless_both e =
      cases (eqb b space) (λ t. absurd (true≢false (sym e ∙ spaceless_space t))) (λ t. (t, sym (spaceless_other t) ∙ e))

-- The fields -----------------------------------------------------------------------------------------------------------

-- there is always a field
pub record Some (fs : List (List ℕ)) : Type 0 where
  pub first : List ℕ
  pub others : List (List ℕ)
  pub is : fs ≡ first ∷ others

on_first_some : (b : ℕ) (fs : List (List ℕ)) → Some fs → Some (on_first b fs)
unfolding on_first
on_first_some b fs s = record { first = b ∷ s.first; others = s.others; is = rw s.is }

pub fields_some : (x : List ℕ) → Some (fields x)
unfolding fields
fields_some [] = record { first = []; others = []; is = refl }
fields_some (b ∷ x) =
    cases (eqb b space) (λ t. rw t (record { first = []; others = fields x; is = refl }))
    (λ t. rw t (on_first_some b (fields x) (fields_some x)))

-- a text without a space is one field
pub fields_one : (x : List ℕ) → spaceless x ≡ true → fields x ≡ x ∷ []
unfolding fields on_first
fields_one [] e = refl
fields_one (b ∷ x) e = let p = spaceless_both b x e in rw (p.0, fields_one x p.1)

on_first_join : (b : ℕ) (fs gs : List (List ℕ)) → Some fs → on_first b (fs ++ gs) ≡ on_first b fs ++ gs
unfolding on_first
on_first_join b fs gs s = rw s.is

-- a space parts the fields before it from those behind it
pub fields_join : (x y : List ℕ) → fields (x ++ space ∷ y) ≡ fields x ++ fields y
unfolding fields
fields_join [] y = refl
fields_join (b ∷ x) y =
    cases (eqb b space) (λ t. rw (t, fields_join x y)) (λ t. rw (t, fields_join x y) (on_first_join b (fields x) (fields y) (fields_some x)))

-- Where the first space stands ------------------------------------------------------------------------------------------

-- a text with a space at k, and none before it
pub record Cut (k : ℕ) (x : List ℕ) : Type 0 where
  pub is : x ≡ take k x ++ space ∷ drop (suc k) x
  pub front : spaceless (take k x) ≡ true

pub cut_first : (x : List ℕ) → before space x < length x → Cut (before space x) x
unfolding before
cut_first [] h = absurd (omega arith)
cut_first (b ∷ x) h =
    cases (eqb b space)
    (λ t. rw t (record { is = ap (λ (c : ℕ). c ∷ x) (eqb-true b space t); front = unfold spaceless before in refl }))
    (λ t. rw t (longer t (cut_first x (below t h))))
  where
    below : eqb b space ≡ false → before space (b ∷ x) < length (b ∷ x) → before space x < length x
    below t h = let k : suc (before space x) < suc (length x) = unfold before in (rw t at h) in omega arith

    longer : {k : ℕ} → eqb b space ≡ false → Cut k x → Cut (suc k) (b ∷ x)
    longer {k} t c = record { is = ap (λ (s : List ℕ). b ∷ s) c.is; front = spaceless_other b (take k x) t ∙ c.front }

-- a text that is not without a space has a first one
pub has_space : (x : List ℕ) → spaceless x ≡ false → before space x < length x
unfolding spaceless
has_space x e = let n = eqb-false (before space x) (length x) e in omega (arith, before_le space x)

-- its fields: the text before the first space, and the fields of what is behind it
pub fields_cut : (k : ℕ) (x : List ℕ) → Cut k x → fields x ≡ take k x ∷ fields (drop (suc k) x)
fields_cut k x c = ap fields c.is ∙ fields_join (take k x) (drop (suc k) x) ∙ rw (fields_one (take k x) c.front)

-- a text with a space has two fields or more
pub record Several (fs : List (List ℕ)) : Type 0 where
  pub first : List ℕ
  pub second : List ℕ
  pub others : List (List ℕ)
  pub is : fs ≡ first ∷ second ∷ others

pub fields_more : (x : List ℕ) → spaceless x ≡ false → Several (fields x)
fields_more x e =
    let k = before space x in
    let s = fields_some (drop (suc k) x) in
    record { first = take k x; second = s.first; others = s.others; is = fields_cut k x (cut_first x (has_space x e)) ∙ rw s.is }
