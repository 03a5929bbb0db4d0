-- Which texts are legal addresses, and which eight groups each one spells: RFC 4291, section 2.2, as clauses 9.2 and 9.3 complete it.
use Rattle.std.specs.Prelude.{ℕ, ◌+◌, ◌-◌, ◌*◌, Bool, true, false, cond, ◌&&◌, List, [], ◌∷◌, ◌++◌, length, get_or, replicate, ltb, eqb}
use Rattle.std.proofs.Math.Option.{Option, none, some}
use Rattle.text_read.specs.Class.{class_of, colon, dot}
use Rattle.text_read.specs.Numerals.{group, decimal}

-- Fields between separators --------------------------------------------------------------------------------------------

unfoldable pub on_first : ℕ → List (List ℕ) → List (List ℕ)
on_first x [] = (x ∷ []) ∷ []
on_first x (f ∷ fs) = (x ∷ f) ∷ fs

-- the fields between the bytes of class k: one more than there are such bytes
unfoldable pub split : ℕ → List ℕ → List (List ℕ)
split k [] = [] ∷ []
split k (x ∷ s) = cond (eqb (class_of x) k) ([] ∷ split k s) (on_first x (split k s))

-- one more in front, if both are there
unfoldable pub push : Option ℕ → Option (List ℕ) → Option (List ℕ)
push none r = none
push (some v) none = none
push (some v) (some l) = some (v ∷ l)

-- The dotted tail: 3 "x:x:x:x:x:x:d.d.d.d" ------------------------------------------------------------------------------

unfoldable pub decimals : List (List ℕ) → Option (List ℕ)
decimals [] = some []
decimals (f ∷ fs) = push (decimal f) (decimals fs)

-- four decimals with dots are the last two groups
unfoldable pub two_groups : Option (List ℕ) → Option (List ℕ)
two_groups none = none
two_groups (some l) = cond (eqb (length l) 4) (some ((get_or l 0 0 * 256 + get_or l 1 0) ∷ (get_or l 2 0 * 256 + get_or l 3 0) ∷ [])) none

unfoldable pub dotted : List ℕ → Option (List ℕ)
dotted s = two_groups (decimals (split dot s))

-- Groups parted by colons: 1 "x:x:x:x:x:x:x:x" --------------------------------------------------------------------------

unfoldable pub or_else : Option ℕ → Option (List ℕ) → Option (List ℕ)
or_else (some v) r = some (v ∷ [])
or_else none r = r

-- the groups of the fields: one each, but for the last, which may be dotted where the address ends
unfoldable pub groups : Bool → List (List ℕ) → Option (List ℕ)
groups end [] = none
groups end (f ∷ []) = or_else (group f) (cond end (dotted f) none)
groups end (f ∷ g ∷ fs) = push (group f) (groups end (g ∷ fs))

-- the groups of a part of an address; an empty part has none
unfoldable pub part : Bool → List ℕ → Option (List ℕ)
part end [] = some []
part end (x ∷ s) = groups end (split colon (x ∷ s))

-- The double colon: 2 "The use of "::" indicates one or more groups of 16 bits of zeros." -------------------------------

pub data Cut : Type 0 where
  whole : Cut
  parted : List ℕ → List ℕ → Cut

unfoldable pub behind : ℕ → Cut → Cut
behind x whole = whole
behind x (parted l r) = parted (x ∷ l) r

-- the text begins with a colon
unfoldable pub begins : List ℕ → Bool
begins [] = false
begins (x ∷ s) = eqb (class_of x) colon

unfoldable pub tail : List ℕ → List ℕ
tail [] = []
tail (x ∷ s) = s

-- what stands before and after the first "::", if there is one
unfoldable pub cut : List ℕ → Cut
cut [] = whole
cut (x ∷ s) = cond (eqb (class_of x) colon && begins s) (parted [] (tail s)) (behind x (cut s))

-- without "::" there are eight groups
unfoldable pub eight : Option (List ℕ) → Option (List ℕ)
eight none = none
eight (some l) = cond (eqb (length l) 8) (some l) none

-- "::" stands for one or more zero groups, so that there are eight; a second "::" leaves an empty field, which is no group
unfoldable pub filled : Option (List ℕ) → Option (List ℕ) → Option (List ℕ)
filled none r = none
filled (some a) none = none
filled (some a) (some b) =
    cond (ltb (length a + length b) 8) (some (a ++ replicate (8 - (length a + length b)) 0 ++ b)) none

unfoldable pub groups_of_cut : List ℕ → Cut → Option (List ℕ)
groups_of_cut s whole = eight (part true s)
groups_of_cut s (parted l r) = filled (part false l) (part true r)

-- the eight groups of a text in one of the RFC's three forms
unfoldable pub groups_of_colons : List ℕ → Option (List ℕ)
groups_of_colons s = groups_of_cut s (cut s)

-- A bare dotted text: "d.d.d.d" alone -----------------------------------------------------------------------------------

-- clause 9.3: the mapped address with that tail, under ::ffff:0:0/96: its two groups stand behind five zero groups and ffff
unfoldable pub mapped : Option (List ℕ) → Option (List ℕ)
mapped none = none
mapped (some l) = some (replicate 5 0 ++ 65535 ∷ l)

unfoldable pub first_of : Option (List ℕ) → Option (List ℕ) → Option (List ℕ)
first_of (some l) r = some l
first_of none r = r

-- the eight groups that a legal text spells. No text is both: without a colon there are not eight groups
unfoldable pub groups_of : List ℕ → Option (List ℕ)
groups_of s = first_of (groups_of_colons s) (mapped (dotted s))

-- the number that groups stand for, where v stands before them
unfoldable pub joined : ℕ → List ℕ → ℕ
joined v [] = v
joined v (g ∷ l) = joined (v * 65536 + g) l
