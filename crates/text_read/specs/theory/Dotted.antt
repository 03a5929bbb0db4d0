-- The dotted tail, as the grammar has it and as it is read.
use Rattle.std.specs.Prelude.{◌≡◌, List, [], ◌∷◌, ◌++◌, ℕ, ◌+◌, ◌*◌, ◌≤◌, length, eqb}
use Rattle.std.proofs.Math.Path.{refl}
use Rattle.std.proofs.Common.{append_assoc, arith, length-append, eqb-true}
use Rattle.std.proofs.Math.Option.{Option, none, some}
use Rattle.std.proofs.Math.ListN.{get_or}
use Rattle.laws.specs.Options.{nothing, when_some}
use Rattle.text_read.specs.Class.{class_of, colon, dot}
use Rattle.text_read.specs.Numerals.{group, decimal}
use Rattle.text_read.specs.Reading.{split, push, decimals, two_groups, dotted}
use Rattle.text_read.specs.Grammar.{Decimal, Dotted, four}
use Rattle.text_read.specs.theory.Bytes.{a_colon, a_dot}
use Rattle.text_read.specs.theory.Options.{push_some}
use Rattle.text_read.specs.theory.Numerals.{digits_none, decimal_numeral, decimal_read, read_decimal}
use Rattle.text_read.specs.theory.Splits.{Without, without_append, split_one, split_more, Fields, last, then, split_fields}

-- four decimals, with dots between
quad : List ℕ → List ℕ → List ℕ → List ℕ → List ℕ
quad s t u v = s ++ 46 ∷ t ++ 46 ∷ u ++ 46 ∷ v

-- the same, bracketed from the right
quad_nested : (s t u v : List ℕ) → quad s t u v ≡ s ++ 46 ∷ (t ++ 46 ∷ (u ++ 46 ∷ v))
unfolding quad
quad_nested s t u v = simp append_assoc

-- a dotted tail is read as its two groups
pub dotted_read : {s l : List ℕ} → Dotted s l → dotted s ≡ some l
unfolding dotted decimals push two_groups quad
dotted_read (four {s = s} {t = t} {u = u} {v = v} p q r w) =
    rw (
      quad_nested s t u v,
      split_more a_dot s (t ++ 46 ∷ (u ++ 46 ∷ v)) ((decimal_numeral p).without a_dot),
      split_more a_dot t (u ++ 46 ∷ v) ((decimal_numeral q).without a_dot),
      split_more a_dot u v ((decimal_numeral r).without a_dot),
      split_one dot v ((decimal_numeral w).without a_dot),
      decimal_read p,
      decimal_read q,
      decimal_read r,
      decimal_read w,
    )

-- a dotted field is not empty, has no colon, and is no group
pub dotted_some : {s l : List ℕ} → Dotted s l → 1 ≤ length s
dotted_some (four {s = s} {t = t} {u = u} {v = v} p q r w) = omega (arith, length-append (s ++ 46 ∷ t ++ 46 ∷ u) (46 ∷ v))

pub dotted_field : {s l : List ℕ} → Dotted s l → Without colon s
dotted_field (four {s = s} {t = t} {u = u} {v = v} p q r w) =
    without_append colon (s ++ 46 ∷ t ++ 46 ∷ u) (46 ∷ v)
    (without_append colon (s ++ 46 ∷ t) (46 ∷ u) (without_append colon s (46 ∷ t) ((decimal_numeral p).without a_colon) (after t q)) (after u r))
    (after v w)
  where
    after : {v : ℕ} → (s : List ℕ) → Decimal s v → Without colon (46 ∷ s)
    after s r = (unfold class_of in refl, (decimal_numeral r).without a_colon)

pub dotted_none : {s l : List ℕ} → Dotted s l → group s ≡ none
unfolding group
dotted_none (four {s = s} {t = t} {u = u} {v = v} p q r w) =
    rw (digits_none a_dot (s ++ 46 ∷ t ++ 46 ∷ u) v)

-- decimals, each with its field
data Decimals : List (List ℕ) → List ℕ → Type 0 where
  done : Decimals [] []
  next : {f : List ℕ} {fs : List (List ℕ)} {v : ℕ} {l : List ℕ} → Decimal f v → Decimals fs l → Decimals (f ∷ fs) (v ∷ l)

-- fields that are read as decimals are decimals
read_decimals : (fs : List (List ℕ)) (l : List ℕ) → decimals fs ≡ some l → Decimals fs l
unfolding decimals
read_decimals [] l e = let q : [] ≡ l = cc in rw (← q) done
read_decimals (f ∷ fs) l e =
    let p = push_some (decimal f) (decimals fs) l e in
    rw p.4 at (next (read_decimal f p.0 p.2) (read_decimals fs p.1 p.3))

-- there is always a field
no_fields : {s : List ℕ} {fs : List (List ℕ)} → Fields 46 s fs → fs ≡ [] → ⊥
no_fields last e = let z : ◌≡◌ {A = ℕ} 0 1 = cc in omega arith
no_fields (then r) e = let z : ◌≡◌ {A = ℕ} 0 1 = cc in omega arith

-- and four of them are a dotted tail
read_four : {s : List ℕ} {fs : List (List ℕ)} {l : List ℕ} → Fields 46 s fs → Decimals fs l → length l ≡ 4
    → Dotted s ((get_or l 0 0 * 256 + get_or l 1 0) ∷ (get_or l 2 0 * 256 + get_or l 3 0) ∷ [])
read_four r done e = absurd (omega arith)
read_four r (next p done) e = absurd (omega arith)
read_four r (next p (next q done)) e = absurd (omega arith)
read_four r (next p (next q (next u done))) e = absurd (omega arith)
read_four (then {s = a} (then {s = b} (then {s = c} (last {s = d})))) (next p (next q (next u (next v done)))) e = rw (← quad_nested a b c d) (unfold quad in four p q u v)
read_four (then (then (then (then r)))) (next p (next q (next u (next v done)))) e = absurd (no_fields r refl)
read_four r (next p (next q (next u (next v (next w x))))) e = absurd (omega arith)

-- what is read as a dotted tail is one in the grammar
pub read_dotted : (s l : List ℕ) → dotted s ≡ some l → Dotted s l
unfolding dotted
read_dotted s l e = go (decimals (split dot s)) refl e
  where
    go : (o : Option (List ℕ)) → decimals (split dot s) ≡ o → two_groups o ≡ some l → Dotted s l
    go none d e = unfold two_groups in nothing e
    go (some v) d e =
        unfold two_groups in
        let p = when_some (eqb (length v) 4) ((get_or v 0 0 * 256 + get_or v 1 0) ∷ (get_or v 2 0 * 256 + get_or v 3 0) ∷ []) l e in
        rw p.1 at (read_four (split_fields a_dot s) (read_decimals (split dot s) v d) (eqb-true (length v) 4 p.0))
