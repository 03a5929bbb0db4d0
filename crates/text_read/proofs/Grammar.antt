-- The two statements of the grammar agree: `Spells` relates a text to eight groups exactly if `groups_of` reads them from it.
use Rattle.std.proofs.Math.Path.{◌≡◌, refl, ap}
use Rattle.std.proofs.Common.{sym, ◌∙◌, arith, lt-ltb, ltb-true, eq-eqb, eqb-true}
use Rattle.std.specs.Prelude.{Bool, cond, ℕ, ◌+◌, ◌-◌, ◌≤◌, ltb, eqb, Ok}
use Rattle.std.proofs.Math.Bool.{true, false}
use mathlib.Core.List.{List, [], ◌∷◌, ◌++◌, append_assoc, append-nil}
use Rattle.std.proofs.Math.Option.{Option, none, some}
use Rattle.std.proofs.Math.ListN.{length, replicate}
use Rattle.laws.specs.Options.{nothing, when_some}
use Rattle.keys.specs.declared.Key.{Key}
use Rattle.text_read.specs.Class.{class_of, colon}
use Rattle.text_read.specs.Numerals.{group}
use Rattle.text_read.specs.Reading.{split, push, dotted, or_else, groups, part, Cut, whole, parted, behind, begins, cut, eight, filled, groups_of_cut, groups_of_colons, mapped, first_of, groups_of}
use Rattle.text_read.specs.Grammar.{Dotted, four, Groups, one, two, more, Side, empty, full, Spells, plain, gap, bare}
use Rattle.text_read.specs.Answers.{keyed, reading_of}
use Rattle.text_read.specs.theory.Bytes.{a_colon}
use Rattle.text_read.specs.theory.Options.{push_some}
use Rattle.text_read.specs.theory.Numerals.{group_numeral, group_read, read_group}
use Rattle.text_read.specs.theory.Dotted.{dotted_read, dotted_field, dotted_none, dotted_some, read_dotted}
use Rattle.text_read.specs.theory.Splits.{Without, split_one, split_more, Fields, last, then, split_fields}
use Rattle.text_read.specs.theory.Cuts.{behinds, behind_behinds, behinds_append, cut_past_lem, cut_single, cut_double, Parts, uncut, around, cut_parts}

-- What the grammar spells is read ----------------------------------------------------------------------------------------

-- a field more
groups_more : {t : List ℕ} {fs : List (List ℕ)} → Fields 58 t fs → (end : Bool) (s : List ℕ) → groups end (s ∷ fs) ≡ push (group s) (groups end fs)
unfolding groups
groups_more last end s = refl
groups_more (then r) end s = refl

-- groups parted by colons are read
groups_read : {end : Bool} {s l : List ℕ} → Groups end s l → groups end (split colon s) ≡ some l
groups_read (one {s = s} r) = rw (split_one colon s ((group_numeral r).without a_colon)) (unfold groups or_else in rw (group_read r))
groups_read (two {s = s} r) = rw (split_one colon s (dotted_field r)) (unfold groups or_else in rw (dotted_none r, dotted_read r))
groups_read (more {end = end} {s = s} {t = t} r rest) =
    rw (split_more a_colon s t ((group_numeral r).without a_colon), groups_more (split_fields a_colon t) end s, group_read r, groups_read rest) (unfold push in refl)

-- the text begins, and not with a colon
abbrev Opens : List ℕ → Type 0
Opens [] = ⊥
Opens (x ∷ s) = eqb (class_of x) colon ≡ false

opens_append : (s t : List ℕ) → Opens s → Opens (s ++ t)
opens_append [] t h = absurd h
opens_append (x ∷ s) t h = h

opens_begins : (s : List ℕ) → Opens s → begins s ≡ false
unfolding begins
opens_begins [] h = absurd h
opens_begins (x ∷ s) h = h

opens : (s : List ℕ) → 1 ≤ length s → Without colon s → Opens s
opens [] h w = absurd (omega arith)
opens (x ∷ s) h w = w.0

-- groups begin with a digit
groups_opens : {end : Bool} {s l : List ℕ} → Groups end s l → Opens s
groups_opens (one {s = s} r) = opens s (group_numeral r).some_digits ((group_numeral r).without a_colon)
groups_opens (two {s = s} r) = opens s (dotted_some r) (dotted_field r)
groups_opens (more {s = s} {t = t} r rest) = opens_append s (58 ∷ t) (opens s (group_numeral r).some_digits ((group_numeral r).without a_colon))

-- what stands on one side of "::" is read
part_read : {end : Bool} {s l : List ℕ} → Side end s l → part end s ≡ some l
part_read empty = unfold part in refl
part_read {end} (full {s = s} r) = some_part s (groups_opens r) ∙ groups_read r
  where
    some_part : (s : List ℕ) → Opens s → part end s ≡ groups end (split colon s)
    some_part [] h = absurd h
    some_part (x ∷ s) h = unfold part in refl

-- no "::" begins in groups parted by colons
cut_groups : {end : Bool} {s l : List ℕ} → Groups end s l → (w : List ℕ) → cut (s ++ w) ≡ behinds s (cut w)
cut_groups (one {s = s} r) w = cut_past_lem s w ((group_numeral r).without a_colon)
cut_groups (two {s = s} r) w = cut_past_lem s w (dotted_field r)
cut_groups (more {s = s} {t = t} r rest) w =
    ap cut (append_assoc s (58 ∷ t) w)
    ∙ cut_past_lem s (58 ∷ (t ++ w)) ((group_numeral r).without a_colon)
    ∙ ap (behinds s)
    (cut_single (t ++ w) (opens_begins (t ++ w) (opens_append t w (groups_opens rest)))
    ∙ ap (behind 58) (cut_groups rest w)
    ∙ behind_behinds 58 t (cut w))
    ∙ behinds_append s (58 ∷ t) (cut w)

-- so there is none in the text of eight groups
cut_whole : {end : Bool} {s l : List ℕ} → Groups end s l → cut s ≡ whole
cut_whole {s = s} r = ap cut (sym (append-nil s)) ∙ cut_groups r [] ∙ unfold cut behinds in refl

-- and "::" is found behind what stands before it
cut_side : {end : Bool} {s l : List ℕ} → Side end s l → (t : List ℕ) → cut (s ++ 58 ∷ 58 ∷ t) ≡ parted s t
cut_side empty t = cut_double t
cut_side (full {s = s} r) t =
    cut_groups r (58 ∷ 58 ∷ t) ∙ ap (behinds s) (cut_double t) ∙ unfold behinds in ap (λ (l : List ℕ). parted l t) (append-nil s)

-- a dotted text has no "::", and its two groups are not eight
pub dotted_whole : {s l : List ℕ} → Dotted s l → cut s ≡ whole
dotted_whole r = cut_whole {end = true} (two r)

pub dotted_two : {s l : List ℕ} → Dotted s l → length l ≡ 2
dotted_two (four p q r w) = refl

dotted_alone : {s l : List ℕ} → Dotted s l → groups_of_colons s ≡ none
unfolding groups_of_colons groups_of_cut eight
dotted_alone r = rw (dotted_whole r, part_read (full (two r)), dotted_two r)

-- a text that spells groups is read as these
pub spells_read : {s l : List ℕ} → Spells s l → groups_of s ≡ some l
unfolding groups_of first_of groups_of_colons groups_of_cut eight filled
spells_read (plain {s = s} {l = l} r e) = rw (cut_whole r, part_read (full r), eq-eqb (length l) 8 e)
spells_read (gap {s = s} {t = t} {a = a} {b = b} p q h) = rw (cut_side p t, part_read p, part_read q, lt-ltb (length a + length b) 8 h)
spells_read (bare r) = rw (dotted_alone r, dotted_read r) (unfold mapped in refl)

-- the grammar has one reading of a text at most
pub spells_once : {s l m : List ℕ} → Spells s l → Spells s m → l ≡ m
spells_once p q = let e = sym (spells_read p) ∙ spells_read q in cc

-- What is read is spelled so by the grammar ----------------------------------------------------------------------------

-- the last field
read_last : (end : Bool) (s l : List ℕ) → or_else (group s) (cond end (dotted s) none) ≡ some l → Groups end s l
read_last end s l e = go end (group s) refl e
  where
    go : (end : Bool) (o : Option ℕ) → group s ≡ o → or_else o (cond end (dotted s) none) ≡ some l → Groups end s l
    go end (some v) g e = unfold or_else in (let q : v ∷ [] ≡ l = cc in rw q at (one {end = end} (read_group s v g)))
    go true none g e = unfold or_else in two (read_dotted s l e)
    go false none g e = unfold or_else in nothing e

-- the fields of a part, parted by colons
read_groups : {s : List ℕ} {fs : List (List ℕ)} → Fields 58 s fs → (end : Bool) (l : List ℕ) → groups end fs ≡ some l → Groups end s l
unfolding groups
read_groups (last {s = s}) end l e = read_last end s l e
read_groups (then {s = s} {fs = fs} r) end l e =
    let p = push_some (group s) (groups end fs) l (sym (groups_more r end s) ∙ e) in
    rw p.4 at (more (read_group s p.0 p.2) (read_groups r end p.1 p.3))

-- a part of an address
read_part : (end : Bool) (s l : List ℕ) → part end s ≡ some l → Side end s l
unfolding part
read_part end [] l e = let q : [] ≡ l = cc in rw (← q) empty
read_part end (x ∷ s) l e = full (read_groups (split_fields a_colon (x ∷ s)) end l e)

-- a text in one of the RFC's forms
colons_spell : (s l : List ℕ) → groups_of_colons s ≡ some l → Spells s l
unfolding groups_of_colons groups_of_cut
colons_spell s l e = go (cut_parts s) e
  where
    uncut_spells : {s l : List ℕ} → Side true s l → length l ≡ 8 → Spells s l
    uncut_spells empty e = absurd (omega arith)
    uncut_spells (full r) e = plain r e

    by_eight : (s : List ℕ) (o : Option (List ℕ)) → part true s ≡ o → eight o ≡ some l → Spells s l
    by_eight s none p e = unfold eight in nothing e
    by_eight s (some m) p e =
        unfold eight in
        let q = when_some (eqb (length m) 8) m l e in
        rw q.1 at (uncut_spells (read_part true s m p) (eqb-true (length m) 8 q.0))

    by_filled : (s t : List ℕ) (o r : Option (List ℕ)) → part false s ≡ o → part true t ≡ r → filled o r ≡ some l → Spells (s ++ 58 ∷ 58 ∷ t) l
    by_filled s t none r p q e = unfold filled in nothing e
    by_filled s t (some a) none p q e = unfold filled in nothing e
    by_filled s t (some a) (some b) p q e =
        unfold filled in
        let w = when_some (ltb (length a + length b) 8) (a ++ replicate (8 - (length a + length b)) 0 ++ b) l e in
        rw w.1 at (gap (read_part false s a p) (read_part true t b q) (ltb-true (length a + length b) 8 w.0))

    go : {s : List ℕ} {q : Cut} → Parts s q → groups_of_cut s q ≡ some l → Spells s l
    go (uncut {s = s}) e = by_eight s (part true s) refl e
    go (around {l = a} {r = b}) e = by_filled a b (part false a) (part true b) refl refl e

-- a text that is read as groups spells these
pub read_spells : (s l : List ℕ) → groups_of s ≡ some l → Spells s l
unfolding groups_of
read_spells s l e = go (groups_of_colons s) refl (dotted s) refl e
  where
    go : (o : Option (List ℕ)) → groups_of_colons s ≡ o → (d : Option (List ℕ)) → dotted s ≡ d → first_of o (mapped d) ≡ some l → Spells s l
    go (some m) g d f e = unfold first_of in (let q : m ≡ l = cc in colons_spell s l (g ∙ ap some q))
    go none g (some m) f e = unfold first_of mapped in (let q : replicate 5 0 ++ 65535 ∷ m ≡ l = cc in rw q at (bare (read_dotted s m f)))
    go none g none f e = unfold first_of mapped in nothing e

-- so a text that is read as a key is spelled by the grammar
pub record Legal (s : List ℕ) : Type 0 where
  pub read : List ℕ
  pub spells : Spells s read

pub read_legal : (s : List ℕ) (k : Key) → reading_of s ≡ Ok k → Legal s
unfolding reading_of
read_legal s k e = go (groups_of s) refl e
  where
    go : (o : Option (List ℕ)) → groups_of s ≡ o → keyed o ≡ Ok k → Legal s
    go none g e = unfold keyed in (let z : ◌≡◌ {A = ℕ} 0 1 = cc in absurd (omega arith))
    go (some l) g e = record { read = l; spells = read_spells s l g }
