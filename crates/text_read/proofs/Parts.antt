-- Parts of an address: what is left to read of one where some of its groups are read already, and what the parts make together.
use Rattle.std.specs.Prelude.{Result, Ok, Err, Option as Found, Some, None}
use Rattle.keys.specs.declared.Key.{Key}
use Rattle.settings.specs.declared.refusal.Refusal.{Refusal}
use Prim.Native.Nat.{ℕ, suc, ◌+◌, ◌*◌, ◌/◌, ◌%◌, ◌≤◌, ◌<◌}
use native.Mathlib.Nat.{zero-add}
use native.Mathlib.Omega.{arith}
use mathlib.Core.Path.{◌≡◌, refl, sym, ap, ◌∙◌}
use mathlib.Core.Bool.{Bool, true, false, cond, ◌&&◌, and-false}
use mathlib.Core.List.{List, [], ◌∷◌, ◌++◌}
use mathlib.Core.Option.{Option, none, some}
use lib.ListN.{length, drop, get_or, length-append, drop_of_length-le}
use lib.Dec.{leb, eqb}
use borrow.Author.Tests.{eqb-true, eqb-false, leb-false, eq-eqb, ne_eqb, le-ltb, le-leb, lt-leb}
use Rattle.laws.specs.Cases.{cases, both_true, never, cond_same}
use Rattle.laws.specs.Lists.{drop_next}
use Rattle.laws.specs.Options.{nothing}
use Rattle.keys.specs.Key.{key_of}
use Rattle.settings.specs.declared.refusal.Refusal.TheVariants as refusal
use Rattle.text_read.specs.Class.{class_of, colon}
use Rattle.text_read.specs.Numerals.{digits, group, decimal}
use Rattle.text_read.specs.Reading.{split, push, decimals, two_groups, dotted, or_else, groups, part, Cut, whole, parted, behind, begins, tail, cut, eight, filled, groups_of_cut, groups_of_colons, joined}
use Rattle.text_read.specs.Answers.{keyed, reading_of}
use Rattle.text_read.specs.Gathered.{Gathered, made, filled_with}
use Rattle.text_read.specs.ReaderSteps.{until, dotted_from, to_end, to_gap, part_of_cut, part_from, mapped_or, part_at, filled_by, after_gap, gathered, Fine, head_answer}
use Rattle.text_read.proofs.Splits.{past, later, split_eq, until_all, past_class, alone, followed, Past, halves, dotted_halves, dotted_colon}
use Rattle.text_read.proofs.Joined.{filled_key}
use Rattle.text_read.specs.theory.Cuts.{behinds, behinds_nil, behind_behinds}
use Rattle.text_read.specs.theory.Options.{push_none}
use Rattle.text_read.specs.theory.Dotted.{dotted_none, read_dotted}
use Rattle.text_read.proofs.Whole.{reading_bare, reading_colons, cut_undotted}
use Rattle.text_read.specs.declared.reader.Part.{Part}
use Rattle.text_read.specs.declared.reader.Part.TheVariants as answer

-- The first "::" ----------------------------------------------------------------------------------------------------------

-- where it stands, if f is the first field and p what stands past it
cut_past : List ℕ → List ℕ → Cut
cut_past f [] = whole
cut_past f (c ∷ []) = whole
cut_past f (c ∷ y ∷ r) = cond (eqb (class_of y) colon) (parted f r) (behinds f (behind c (cut (y ∷ r))))

behind_past : (x : ℕ) (f p : List ℕ) → behind x (cut_past f p) ≡ cut_past (x ∷ f) p
unfolding cut_past behind
behind_past x f [] = refl
behind_past x f (c ∷ []) = refl
behind_past x f (c ∷ y ∷ r) = go (eqb (class_of y) colon)
  where
    go : (b : Bool) → behind x (cond b (parted f r) (behinds f (behind c (cut (y ∷ r)))))
        ≡ cond b (parted (x ∷ f) r) (behinds (x ∷ f) (behind c (cut (y ∷ r))))
    go true = refl
    go false = behind_behinds x f (behind c (cut (y ∷ r)))

cut_here : (x : ℕ) (t : List ℕ) → cond (begins t) (parted [] (tail t)) (behind x (cut t)) ≡ cut_past [] (x ∷ t)
unfolding begins tail cut_past cut behind
cut_here x [] = refl
cut_here x (y ∷ t) = rw (behinds_nil (behind x (cut (y ∷ t))))

cut_eq : (t : List ℕ) → cut t ≡ cut_past (until colon t) (past colon t)
unfolding cut until past cut_past
cut_eq [] = refl
cut_eq (x ∷ t) = go (eqb (class_of x) colon) (cut_eq t)
  where
    go : (b : Bool) → cut t ≡ cut_past (until colon t) (past colon t)
        → cond (b && begins t) (parted [] (tail t)) (behind x (cut t)) ≡ cut_past (cond b [] (x ∷ until colon t)) (cond b (x ∷ t) (past colon t))
    go true h = cut_here x t
    go false h = ap (behind x) h ∙ behind_past x (until colon t) (past colon t)

-- what "::" parts
behind_parted : (x : ℕ) (q : Cut) (l r : List ℕ) → behind x q ≡ parted l r → (m : List ℕ) × (l ≡ x ∷ m) × (q ≡ parted m r)
unfolding behind
behind_parted x whole l r h = let z : ◌≡◌ {A = ℕ} 0 1 = cc in absurd (omega arith)
behind_parted x (parted m r') l r h = (m, cc, cc)

cut_drop : (t l r : List ℕ) → cut t ≡ parted l r → (drop (length l + 2) t ≡ r) × (length l + 2 ≤ length t)
unfolding cut
cut_drop [] l r h = let z : ◌≡◌ {A = ℕ} 0 1 = cc in absurd (omega arith)
cut_drop (x ∷ t) l r h = go (eqb (class_of x) colon && begins t) refl (cut_drop t) h
  where
    here : (t : List ℕ) → begins t ≡ true → (drop 2 (x ∷ t) ≡ tail t) × (2 ≤ length (x ∷ t))
    here [] b = unfold begins in never b
    here (y ∷ t) b = unfold tail in (refl, omega arith)

    go : (b : Bool) → (eqb (class_of x) colon && begins t) ≡ b → ((l r : List ℕ) → cut t ≡ parted l r → (drop (length l + 2) t ≡ r) × (length l + 2 ≤ length t))
        → cond b (parted [] (tail t)) (behind x (cut t)) ≡ parted l r → (drop (length l + 2) (x ∷ t) ≡ r) × (length l + 2 ≤ length (x ∷ t))
    go true e ih q =
        let p = here t (both_true (eqb (class_of x) colon) (begins t) e).1 in
        let a : l ≡ [] = cc in
        let b : tail t ≡ r = cc in
        (rw a (p.0 ∙ b), rw a p.1)
    go false e ih q =
        let p = behind_parted x (cut t) l r q in
        let k = ih p.0 r p.2 in
        let n : length (x ∷ p.0) + 2 ≡ suc (length p.0 + 2) = omega arith in
        (rw (p.1, n) k.0, rw p.1 (omega (arith, k.1)))

-- The groups of the fields ------------------------------------------------------------------------------------------------

groups_one : (e : Bool) (t : List ℕ) → past colon t ≡ [] → groups e (split colon t) ≡ or_else (group (until colon t)) (cond e (dotted (until colon t)) none)
unfolding groups later
groups_one e t p = simp (split_eq colon t, p)

groups_cons : (e : Bool) (f r : List ℕ) → groups e (f ∷ split colon r) ≡ push (group f) (groups e (split colon r))
unfolding groups
groups_cons e f r = rw (split_eq colon r)

groups_more : (e : Bool) (t : List ℕ) (c : ℕ) (r : List ℕ) → past colon t ≡ c ∷ r → groups e (split colon t) ≡ push (group (until colon t)) (groups e (split colon r))
unfolding later
groups_more e t c r p = rw (split_eq colon t, p) (groups_cons e (until colon t) r)

empty_none : groups true (split colon []) ≡ none
unfolding split groups or_else group digits dotted decimals decimal push two_groups
empty_none = refl

-- a field between colons is empty, and not the last
holed : List (List ℕ) → Bool
holed [] = false
holed (f ∷ []) = false
holed ([] ∷ g ∷ fs) = true
holed ((x ∷ f) ∷ g ∷ fs) = holed (g ∷ fs)

no_group : group [] ≡ none
unfolding group digits
no_group = refl

holed_none : (e : Bool) (fs : List (List ℕ)) → holed fs ≡ true → groups e fs ≡ none
unfolding holed groups
holed_none e [] h = never h
holed_none e (f ∷ []) h = never h
holed_none e ([] ∷ g ∷ fs) h = rw no_group (unfold push in refl)
holed_none e ((x ∷ f) ∷ g ∷ fs) h = rw (holed_none e (g ∷ fs) h) (push_none (group (x ∷ f)))

holed_next : (f : List ℕ) (fs : List (List ℕ)) → holed fs ≡ true → holed (f ∷ fs) ≡ true
unfolding holed
holed_next f [] h = never h
holed_next [] (g ∷ fs) h = refl
holed_next (x ∷ f) (g ∷ fs) h = h

holed_begins : (t : List ℕ) → begins t ≡ true → holed (split colon t) ≡ true
unfolding begins split holed
holed_begins [] b = never b
holed_begins (y ∷ t) b = rw (b, split_eq colon t)

holed_gap : (t l r : List ℕ) → cut t ≡ parted l r → holed (later colon (past colon t)) ≡ true
unfolding cut past
holed_gap [] l r h = let z : ◌≡◌ {A = ℕ} 0 1 = cc in absurd (omega arith)
holed_gap (x ∷ t) l r h = go (eqb (class_of x) colon) refl (begins t) refl (λ m q. holed_gap t m r q) h
  where
    go : (a : Bool) → eqb (class_of x) colon ≡ a → (b : Bool) → begins t ≡ b → ((m : List ℕ) → cut t ≡ parted m r → holed (later colon (past colon t)) ≡ true)
        → cond (a && b) (parted [] (tail t)) (behind x (cut t)) ≡ parted l r → holed (later colon (cond a (x ∷ t) (past colon t))) ≡ true
    go true e true f ih q = unfold later in holed_begins t f
    go true e false f ih q =
        let p = behind_parted x (cut t) l r q in
        unfold later in rw (split_eq colon t) (holed_next (until colon t) (later colon (past colon t)) (ih p.0 p.2))
    go false e b f ih q =
        let p = behind_parted x (cut t) l r q in
        ih p.0 p.2

-- a text with "::" is no single part: a field is empty
pub gap_none : (e : Bool) (t l r : List ℕ) → cut t ≡ parted l r → groups e (split colon t) ≡ none
gap_none e t l r h = rw (split_eq colon t) (holed_none e (until colon t ∷ later colon (past colon t)) (holed_next (until colon t) (later colon (past colon t)) (holed_gap t l r h)))

-- A turn of the reader ----------------------------------------------------------------------------------------------------

to_end_push : (v n g : ℕ) (o : Option (List ℕ)) → to_end v n (push (some g) o) ≡ to_end (v * 65536 + g) (n + 1) o
unfolding to_end push joined
to_end_push v n g none = refl
to_end_push v n g (some l) = let e : n + suc (length l) ≡ n + 1 + length l = omega arith in rw e

to_gap_push : (v n next g : ℕ) (o : Option (List ℕ)) → to_gap v n next (push (some g) o) ≡ to_gap (v * 65536 + g) (n + 1) next o
unfolding to_gap push joined
to_gap_push v n next g none = refl
to_gap_push v n next g (some l) = let e : n + suc (length l) ≡ n + 1 + length l = omega arith in rw e

to_end_over : (v n : ℕ) (o : Option (List ℕ)) → 8 < n → to_end v n o ≡ None
unfolding to_end
to_end_over v n none h = refl
to_end_over v n (some l) h = rw (lt-leb (n + length l) 8 (omega arith))

to_gap_over : (v n next : ℕ) (o : Option (List ℕ)) → 8 < n → to_gap v n next o ≡ None
unfolding to_gap
to_gap_over v n next none h = refl
to_gap_over v n next (some l) h = rw (lt-leb (n + length l) 8 (omega arith))

part_over : (v n : ℕ) (t : List ℕ) (at : ℕ) → 8 < n → part_from v n t at ≡ None
unfolding part_from
part_over v n t at h = go (cut t)
  where
    go : (q : Cut) → part_of_cut v n t at q ≡ None
    go whole = unfold part_of_cut in to_end_over v n (groups true (split colon t)) h
    go (parted l r) = unfold part_of_cut in to_gap_over v n (at + length l + 2) (groups false (split colon l)) h

module _ (v n : ℕ) (t : List ℕ) (at : ℕ) where
  -- no group in the first field: it is dotted, and the last, or the part is not legal
  pub part_dotted : group (until colon t) ≡ none → part_from v n t at ≡ to_end v n (dotted t)
  unfolding part_from
  part_dotted g = rw (cut_eq t) (by_past (past colon t) refl)
    where
      bad_alone : groups false (split colon (until colon t)) ≡ none
      bad_alone = groups_one false (until colon t) (alone colon t).1 ∙ rw (alone colon t).0 (unfold or_else in rw g)

      bad_more : (e : Bool) (t' : List ℕ) (c : ℕ) (r : List ℕ) → until colon t' ≡ until colon t → past colon t' ≡ c ∷ r → groups e (split colon t') ≡ none
      bad_more e t' c r u p = groups_more e t' c r p ∙ rw (u, g) (unfold push in refl)

      by_cut : (c : ℕ) (r : List ℕ) → past colon t ≡ c ∷ r → (q : Cut) → part_of_cut v n t at (behinds (until colon t) (behind c q)) ≡ None
      by_cut c r p whole = unfold behind behinds part_of_cut to_end in rw (bad_more true t c r refl p)
      by_cut c r p (parted l r') =
          let k = followed colon c l t (past_class colon t c r p) in
          unfold behind behinds part_of_cut to_gap in rw (bad_more false (until colon t ++ c ∷ l) c l k.0 k.1)

      by_past : (p : List ℕ) → past colon t ≡ p → part_of_cut v n t at (cut_past (until colon t) p) ≡ to_end v n (dotted t)
      by_past [] p = unfold cut_past part_of_cut in rw (groups_one true t p, g, until_all colon t p) (unfold or_else in refl)
      by_past (c ∷ []) p = rw (dotted_colon t c [] p) (unfold cut_past part_of_cut to_end in rw (bad_more true t c [] refl p))
      by_past (c ∷ y ∷ r) p = rw (dotted_colon t c (y ∷ r) p) (unfold cut_past to_end in go (eqb (class_of y) colon))
        where
          go : (b : Bool) → part_of_cut v n t at (cond b (parted (until colon t) r) (behinds (until colon t) (behind c (cut (y ∷ r))))) ≡ None
          go true = unfold part_of_cut to_gap in rw bad_alone
          go false = by_cut c (y ∷ r) p (cut (y ∷ r))

  -- a colon at the end
  part_short : (c : ℕ) → past colon t ≡ c ∷ [] → part_from v n t at ≡ None
  unfolding part_from
  part_short c p = rw (cut_eq t, p) (unfold cut_past part_of_cut to_end in rw none_all)
    where
      none_all : groups true (split colon t) ≡ none
      none_all = groups_more true t c [] p ∙ rw empty_none (push_none (group (until colon t)))

  module _ (g : ℕ) (e : group (until colon t) ≡ some g) where
    -- the last group
    part_last : past colon t ≡ [] → part_from v n t at ≡ to_end v n (some (g ∷ []))
    unfolding part_from
    part_last p = rw (cut_eq t, p) (unfold cut_past part_of_cut in rw (groups_one true t p, e) (unfold or_else in refl))

    module _ (c y : ℕ) (r : List ℕ) (p : past colon t ≡ c ∷ y ∷ r) where
      -- "::"
      part_gap : class_of y ≡ colon → part_from v n t at ≡ to_gap v n (at + length (until colon t) + 2) (some (g ∷ []))
      unfolding part_from
      part_gap h = rw (cut_eq t, p) (unfold cut_past in rw (eq-eqb (class_of y) colon h) (unfold part_of_cut in rw one_alone))
        where
          one_alone : groups false (split colon (until colon t)) ≡ some (g ∷ [])
          one_alone = groups_one false (until colon t) (alone colon t).1 ∙ rw ((alone colon t).0, e) (unfold or_else in refl)

      -- a colon
      part_more : (class_of y ≡ colon → ⊥) → part_from v n t at ≡ part_from (v * 65536 + g) (n + 1) (y ∷ r) (at + length (until colon t) + 1)
      unfolding part_from
      part_more h = rw (cut_eq t, p) (unfold cut_past in rw (ne_eqb (class_of y) colon h) (by_cut (cut (y ∷ r))))
        where
          by_cut : (q : Cut) → part_of_cut v n t at (behinds (until colon t) (behind c q)) ≡ part_of_cut (v * 65536 + g) (n + 1) (y ∷ r) (at + length (until colon t) + 1) q
          by_cut whole = unfold behind behinds part_of_cut in rw (groups_more true t c (y ∷ r) p, e) (to_end_push v n g (groups true (split colon (y ∷ r))))
          by_cut (parted l r') = unfold behind behinds part_of_cut in rw (more, place) (to_gap_push v n (at + length (until colon t) + 1 + length l + 2) g (groups false (split colon l)))
            where
              place : at + length (until colon t ++ c ∷ l) + 2 ≡ at + length (until colon t) + 1 + length l + 2
              place = omega (arith, length-append (until colon t) (c ∷ l))

              more : groups false (split colon (until colon t ++ c ∷ l)) ≡ push (some g) (groups false (split colon l))
              more =
                  let k = followed colon c l t (past_class colon t c (y ∷ r) p) in
                  groups_more false (until colon t ++ c ∷ l) c l k.1 ∙ rw (k.0, e)

    -- a ninth group
    part_many : 7 < n → part_from v n t at ≡ None
    part_many h = by_past (past colon t) refl
      where
        by_past : (p : List ℕ) → past colon t ≡ p → part_from v n t at ≡ None
        by_past [] p = part_last p ∙ (unfold to_end in rw (lt-leb (n + 1) 8 (omega arith)))
        by_past (c ∷ []) p = part_short c p
        by_past (c ∷ y ∷ r) p = cases (eqb (class_of y) colon)
            (λ b. part_gap c y r p (eqb-true (class_of y) colon b) ∙ (unfold to_gap in rw (lt-leb (n + 1) 8 (omega arith))))
            (λ b. part_more c y r p (eqb-false (class_of y) colon b) ∙ part_over (v * 65536 + g) (n + 1) (y ∷ r) (at + length (until colon t) + 1) (omega arith))

-- At the start of the text ------------------------------------------------------------------------------------------------

-- a text that begins with a group is not dotted
group_undotted : (t : List ℕ) (g : ℕ) → group (until colon t) ≡ some g → dotted t ≡ none
group_undotted t g e = by_past (past colon t) refl
  where
    by_past : (p : List ℕ) → past colon t ≡ p → dotted t ≡ none
    by_past (c ∷ r) p = dotted_colon t c r p
    by_past [] p = go (dotted t) refl
      where
        go : (o : Option (List ℕ)) → dotted t ≡ o → o ≡ none
        go none d = refl
        go (some l) d = nothing (sym (dotted_none (read_dotted t l d)) ∙ (rw (until_all colon t p) at e))

module _ (v n : ℕ) (t : List ℕ) (at : ℕ) where
  pub part_later : 0 < at → part_at v n t at ≡ part_from v n t at
  unfolding part_at
  part_later h = rw (ne_eqb at 0 (λ e. omega arith))

  part_colons : (g : ℕ) → group (until colon t) ≡ some g → part_at v n t at ≡ part_from v n t at
  unfolding part_at mapped_or
  part_colons g e = rw (group_undotted t g e) (cond_same (eqb at 0) (part_from v n t at))

-- no group in the first field: it is dotted, and these groups stand before it
pub part_tail : (g b : Gathered) (t : List ℕ) (at : ℕ) → group (until colon t) ≡ none → b ≡ cond (eqb at 0) (made 65535 6) g
    → part_at g.number g.count t at ≡ to_end b.number b.count (dotted t)
unfolding part_at
part_tail g b t at e f = cases (eqb at 0) (λ z. rw (f, z) (start (dotted t) refl)) (λ z. rw (f, z) plain)
  where
    plain : part_from g.number g.count t at ≡ to_end g.number g.count (dotted t)
    plain = part_dotted g.number g.count t at e

    start : (o : Option (List ℕ)) → dotted t ≡ o → mapped_or o (part_from g.number g.count t at) ≡ to_end 65535 6 o
    start none d = unfold mapped_or in (plain ∙ rw d (unfold to_end in refl))
    start (some l) d = unfold mapped_or in refl

-- by places: a group g in the field from i on, which ends at `end`
module _ (v n : ℕ) (s : List ℕ) (i g end : ℕ) (e : group (until colon (drop i s)) ≡ some g) (p : Past colon s i end) where
  colons : part_at v n (drop i s) i ≡ part_from v n (drop i s) i
  colons = part_colons v n (drop i s) i g e

  pub turn_many : 7 < n → part_at v n (drop i s) i ≡ None
  turn_many h = colons ∙ part_many v n (drop i s) i g e h

  pub turn_last : end ≡ length s → n ≤ 7 → part_at v n (drop i s) i ≡ Some (answer.Whole (made (v * 65536 + g) (n + 1)))
  turn_last h l = colons ∙ part_last v n (drop i s) i g e (p.last h) ∙ (unfold to_end joined in rw (le-leb (n + 1) 8 (omega arith)))

  pub turn_short : end + 1 ≡ length s → part_at v n (drop i s) i ≡ None
  turn_short h = colons ∙ part_short v n (drop i s) i (get_or s end 0) (p.short h)

  module _ (h : end + 1 < length s) where
    pub turn_gap : class_of (get_or s (end + 1) 0) ≡ colon → n ≤ 7 → part_at v n (drop i s) i ≡ Some (answer.Gap (made (v * 65536 + g) (n + 1)) (end + 1 + 1))
    turn_gap c l =
        colons
        ∙ part_gap v n (drop i s) i g e (get_or s end 0) (get_or s (end + 1) 0) (drop (end + 1 + 1) s) (p.two h) c
        ∙ (unfold to_gap joined in rw (le-leb (n + 1) 8 (omega arith), place))
      where
        place : i + length (until colon (drop i s)) + 2 ≡ end + 1 + 1
        place = omega (arith, p.size)

    pub turn_more : (class_of (get_or s (end + 1) 0) ≡ colon → ⊥) → part_at v n (drop i s) i ≡ part_at (v * 65536 + g) (n + 1) (drop (end + 1) s) (end + 1)
    turn_more c =
        colons
        ∙ part_more v n (drop i s) i g e (get_or s end 0) (get_or s (end + 1) 0) (drop (end + 1 + 1) s) (p.two h) c
        ∙ (rw (sym (drop_next s (end + 1) 0 h), p.size))
        ∙ sym (part_later (v * 65536 + g) (n + 1) (drop (end + 1) s) (end + 1) (omega arith))

-- The dotted tail
tail_halves : (v n : ℕ) (t : List ℕ) (o : Option ℕ) → dotted_from 0 0 t ≡ o → to_end v n (dotted t) ≡ to_end v n (halves o)
tail_halves v n t o e = rw (dotted_halves t, e)

pub tail_many : (v n : ℕ) (t : List ℕ) → 6 < n → to_end v n (dotted t) ≡ None
tail_many v n t h = rw (dotted_halves t) (go (dotted_from 0 0 t))
  where
    go : (o : Option ℕ) → to_end v n (halves o) ≡ None
    go none = unfold to_end in refl
    go (some w) = unfold to_end in rw (lt-leb (n + 2) 8 (omega arith))

pub tail_none : (v n : ℕ) (t : List ℕ) → dotted_from 0 0 t ≡ none → to_end v n (dotted t) ≡ None
tail_none v n t e = tail_halves v n t none e ∙ (unfold to_end in refl)

two_joined : (v w : ℕ) → (v * 65536 + w / 65536) * 65536 + w % 65536 ≡ v * 4294967296 + w
two_joined v w = omega arith

pub tail_some : (v n : ℕ) (t : List ℕ) (w : ℕ) → dotted_from 0 0 t ≡ some w → n ≤ 6
    → to_end v n (dotted t) ≡ Some (answer.Whole (made (v * 4294967296 + w) (n + 2)))
tail_some v n t w e h = tail_halves v n t (some w) e ∙ (unfold to_end joined in rw (le-leb (n + 2) 8 (omega arith), two_joined v w))

-- What a part is ----------------------------------------------------------------------------------------------------------

-- groups to the end of the text
end_fine : (v n last : ℕ) (o : Option (List ℕ)) → Fine last (to_end v n o)
unfolding to_end
end_fine v n last none = tt
end_fine v n last (some l) = cases (leb (n + length l) 8) (λ e. rw e tt) (λ e. rw e tt)

-- or to "::"
gap_fine : (v n last next : ℕ) (o : Option (List ℕ)) → 0 < next → next ≤ last → Fine last (to_gap v n next o)
unfolding to_gap
gap_fine v n last next none p q = tt
gap_fine v n last next (some l) p q = cases (leb (n + length l) 8) (λ e. rw e (p, q)) (λ e. rw e tt)

pub part_fine : (t : List ℕ) (at : ℕ) → Fine (at + length t) (part_from 0 0 t at)
unfolding part_from
part_fine t at = go (cut t) refl
  where
    go : (q : Cut) → cut t ≡ q → Fine (at + length t) (part_of_cut 0 0 t at q)
    go whole c = unfold part_of_cut in end_fine 0 0 (at + length t) (groups true (split colon t))
    go (parted a r) c =
        unfold part_of_cut in
        gap_fine 0 0 (at + length t) (at + length a + 2) (groups false (split colon a)) (omega arith) (omega (arith, (cut_drop t a r c).1))

pub start_fine : (s : List ℕ) → Fine (length s) (part_at 0 0 s 0)
unfolding part_at
start_fine s = go (dotted s)
  where
    go : (o : Option (List ℕ)) → Fine (length s) (mapped_or o (part_from 0 0 s 0))
    go none = unfold mapped_or in (rw (zero-add (length s)) at (part_fine s 0))
    go (some l) = unfold mapped_or in end_fine 65535 6 (length s) (some l)

-- What the parts make -----------------------------------------------------------------------------------------------------

-- the groups of a part that goes to the end of the text
abbrev pub whole_of : Found Part → Found Gathered
whole_of None = None
whole_of (Some (answer.Gap g next)) = None
whole_of (Some (answer.Whole g)) = Some g

gathered_empty : gathered (part true []) ≡ Some (made 0 0)
unfolding gathered part joined
gathered_empty = refl

gathered_part : (x : ℕ) (t : List ℕ) (at : ℕ) → gathered (part true (x ∷ t)) ≡ whole_of (part_from 0 0 (x ∷ t) at)
unfolding part part_from
gathered_part x t at = go (cut (x ∷ t)) refl
  where
    ended : (o : Option (List ℕ)) → gathered o ≡ whole_of (to_end 0 0 o)
    ended none = unfold gathered to_end in refl
    ended (some l) = unfold gathered to_end in rw (zero-add (length l)) (cases (leb (length l) 8) (λ e. rw e) (λ e. rw e))

    parting : (next : ℕ) (o : Option (List ℕ)) → None ≡ whole_of (to_gap 0 0 next o)
    parting next none = unfold to_gap in refl
    parting next (some l) = unfold to_gap in cases (leb (0 + length l) 8) (λ e. rw e) (λ e. rw e)

    go : (q : Cut) → cut (x ∷ t) ≡ q → gathered (groups true (split colon (x ∷ t))) ≡ whole_of (part_of_cut 0 0 (x ∷ t) at q)
    go whole c = unfold part_of_cut in ended (groups true (split colon (x ∷ t)))
    go (parted a r) c =
        unfold part_of_cut in
        rw (gap_none true (x ∷ t) a r c) (unfold gathered in parting (at + length a + 2) (groups false (split colon a)))

-- the address, where the groups behind "::" are these
abbrev pub behind_answer : ℕ → ℕ → Found Gathered → Result Key Refusal
behind_answer v n None = Err refusal.Text
behind_answer v n (Some g) = filled_with v n g.number g.count

pub after_behind : (v n : ℕ) (t : List ℕ) → after_gap v n t ≡ behind_answer v n (gathered (part true t))
unfolding after_gap
after_behind v n t = go (part true t)
  where
    many : (w m : ℕ) → 8 < m → filled_with v n w m ≡ Err refusal.Text
    many w m h = unfold filled_with in rw (le-ltb (n + m) 8 (omega arith))

    go : (o : Option (List ℕ)) → filled_by v n o ≡ behind_answer v n (gathered o)
    go none = unfold filled_by gathered in refl
    go (some l) =
        unfold filled_by gathered in
        cases (leb (length l) 8) (λ e. rw e) (λ e. rw e (many (joined 0 l) (length l) (leb-false (length l) 8 e)))

keyed_if : (b : Bool) (l : List ℕ) → keyed (cond b (some l) none) ≡ cond b (Ok (key_of (joined 0 l))) (Err refusal.Text)
unfolding keyed
keyed_if true l = refl
keyed_if false l = refl

head_whole : (s : List ℕ) (o : Option (List ℕ)) → keyed (eight o) ≡ head_answer s (to_end 0 0 o)
unfolding eight to_end
head_whole s none = unfold keyed in refl
head_whole s (some l) = keyed_if (eqb (length l) 8) l ∙ test (leb (0 + length l) 8) refl
  where
    test : (b : Bool) → leb (0 + length l) 8 ≡ b
        → cond (eqb (length l) 8) (Ok (key_of (joined 0 l))) (Err refusal.Text) ≡ head_answer s (cond b (Some (answer.Whole (made (joined 0 l) (0 + length l)))) None)
    test true h = rw (zero-add (length l))
    test false h = rw (ne_eqb (length l) 8 (λ e. omega (arith, leb-false (0 + length l) 8 h)))

filled_over : (v n : ℕ) (o : Option (List ℕ)) → 8 < n → filled_by v n o ≡ Err refusal.Text
unfolding filled_by filled_with
filled_over v n none h = refl
filled_over v n (some l) h = rw (le-ltb (n + length l) 8 (omega arith))

head_gap : (s l r : List ℕ) → cut s ≡ parted l r → (o : Option (List ℕ)) → keyed (filled o (part true r)) ≡ head_answer s (to_gap 0 0 (0 + length l + 2) o)
unfolding to_gap
head_gap s l r c none = unfold filled keyed in refl
head_gap s l r c (some a) = filled_key a (part true r) ∙ test (leb (0 + length a) 8) refl
  where
    test : (b : Bool) → leb (0 + length a) 8 ≡ b
        → filled_by (joined 0 a) (length a) (part true r) ≡ head_answer s (cond b (Some (answer.Gap (made (joined 0 a) (0 + length a)) (0 + length l + 2))) None)
    test true h = rw (zero-add (length l), (cut_drop s l r c).0, zero-add (length a)) (unfold after_gap in refl)
    test false h = filled_over (joined 0 a) (length a) (part true r) (omega (arith, leb-false (0 + length a) 8 h))

cut_plain : (x : ℕ) (s : List ℕ) → (begins (x ∷ s) && begins (tail (x ∷ s))) ≡ false → cut (x ∷ s) ≡ behind x (cut s)
unfolding cut begins tail
cut_plain x s h = rw h

colons_plain : (s : List ℕ) → (begins s && begins (tail s)) ≡ false → keyed (groups_of_colons s) ≡ head_answer s (part_from 0 0 s 0)
unfolding groups_of_colons part_from
colons_plain [] h = unfold groups_of_cut cut part eight keyed part_of_cut split groups or_else group digits dotted decimals decimal push two_groups to_end in refl
colons_plain (x ∷ s) h = rw (cut_plain x s h) (go (cut s) (cut_plain x s h))
  where
    go : (q : Cut) → cut (x ∷ s) ≡ behind x q → keyed (groups_of_cut (x ∷ s) (behind x q)) ≡ head_answer (x ∷ s) (part_of_cut 0 0 (x ∷ s) 0 (behind x q))
    go whole c = unfold behind groups_of_cut part part_of_cut in head_whole (x ∷ s) (groups true (split colon (x ∷ s)))
    go (parted l r) c = unfold behind groups_of_cut part part_of_cut in head_gap (x ∷ s) (x ∷ l) r c (groups false (split colon (x ∷ l)))

pub read_plain : (s : List ℕ) → (begins s && begins (tail s)) ≡ false → reading_of s ≡ head_answer s (part_at 0 0 s 0)
unfolding part_at
read_plain s h = go (dotted s) refl
  where
    go : (o : Option (List ℕ)) → dotted s ≡ o → reading_of s ≡ head_answer s (mapped_or o (part_from 0 0 s 0))
    go none d = unfold mapped_or in (reading_colons s d ∙ colons_plain s h)
    go (some l) d = unfold mapped_or in reading_bare (read_dotted s l d)

-- the text begins with "::"
cut_open : (x y : ℕ) (s : List ℕ) → (begins (x ∷ y ∷ s) && begins (tail (x ∷ y ∷ s))) ≡ true → cut (x ∷ y ∷ s) ≡ parted [] s
unfolding cut begins tail
cut_open x y s h = rw h

colons_open : (s t : List ℕ) → cut s ≡ parted [] t → keyed (groups_of_colons s) ≡ after_gap 0 0 t
unfolding groups_of_colons groups_of_cut part after_gap joined
colons_open s t c = rw c (filled_key [] (part true t))

pub read_open : (s : List ℕ) → (begins s && begins (tail s)) ≡ true → (2 ≤ length s) × (reading_of s ≡ after_gap 0 0 (drop 2 s))
unfolding begins tail
read_open [] h = never h
read_open (x ∷ []) h = never (sym (and-false (eqb (class_of x) colon)) ∙ h)
read_open (x ∷ y ∷ s) h =
    let t : List ℕ = x ∷ y ∷ s in
    let c = cut_open x y s h in
    (omega arith, reading_colons t (cut_undotted t [] s c) ∙ colons_open t s c)

-- by place
pub opens_short : (s : List ℕ) → length s < 2 → (begins s && begins (tail s)) ≡ false
unfolding begins tail
opens_short [] h = refl
opens_short (x ∷ []) h = and-false (eqb (class_of x) colon)
opens_short (x ∷ y ∷ s) h = absurd (omega arith)

pub opens_long : (s : List ℕ) → 2 ≤ length s
    → (begins s && begins (tail s)) ≡ (eqb (class_of (get_or s 0 0)) colon && eqb (class_of (get_or s 1 0)) colon)
unfolding begins tail
opens_long [] h = absurd (omega arith)
opens_long (x ∷ []) h = absurd (omega arith)
opens_long (x ∷ y ∷ s) h = refl

module _ (s : List ℕ) (at : ℕ) where
  pub behind_end : at ≡ length s → gathered (part true (drop at s)) ≡ Some (made 0 0)
  behind_end h =
      let l : length s ≤ at = omega arith in
      rw (drop_of_length-le s l) gathered_empty

  pub behind_here : at < length s → gathered (part true (drop at s)) ≡ whole_of (part_from 0 0 (drop at s) at)
  behind_here h = rw (drop_next s at 0 h) (gathered_part (get_or s at 0) (drop (at + 1) s) at)
