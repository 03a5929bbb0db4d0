-- The first "::" of a text.
use Rattle.std.specs.Prelude.{◌≡◌, refl, true, false, ◌&&◌, List, [], ◌∷◌, ◌++◌, ℕ, eqb}
use Rattle.std.proofs.Common.{sym, append_assoc, eqb-true}
use Rattle.laws.specs.Cases.{cases, both_true, never}
use Rattle.text_read.specs.Class.{class_of, colon}
use Rattle.text_read.specs.Reading.{Cut, whole, parted, behind, begins, tail, cut}
use Rattle.text_read.specs.theory.Bytes.{a_colon, class_separator}
use Rattle.text_read.specs.theory.Splits.{Without}

-- what is cut, with the text s before it
unfoldable pub behinds : List ℕ → Cut → Cut
behinds s whole = whole
behinds s (parted l r) = parted (s ++ l) r

-- with no text before it
pub behinds_nil : (q : Cut) → behinds [] q ≡ q
unfolding behinds
behinds_nil whole = refl
behinds_nil (parted l r) = refl

-- with one byte more
pub behind_behinds : (x : ℕ) (s : List ℕ) (q : Cut) → behind x (behinds s q) ≡ behinds (x ∷ s) q
unfolding behinds behind
behind_behinds x s whole = refl
behind_behinds x s (parted l r) = refl

-- with two texts
pub behinds_append : (s t : List ℕ) (q : Cut) → behinds s (behinds t q) ≡ behinds (s ++ t) q
unfolding behinds
behinds_append s t whole = refl
behinds_append s t (parted l r) = rw (append_assoc s t l)

-- no "::" begins in a text without colons
pub cut_past_lem : (s t : List ℕ) → Without colon s → cut (s ++ t) ≡ behinds s (cut t)
unfolding cut
cut_past_lem [] t w = sym (behinds_nil (cut t))
cut_past_lem (x ∷ s) t w = rw (w.0, cut_past_lem s t w.1) (behind_behinds x s (cut t))

-- a colon that none follows
pub cut_single : (t : List ℕ) → begins t ≡ false → cut (58 ∷ t) ≡ behind 58 (cut t)
unfolding cut class_of
cut_single t e = rw e

-- "::" itself
pub cut_double : (t : List ℕ) → cut (58 ∷ 58 ∷ t) ≡ parted [] t
unfolding cut begins tail class_of
cut_double t = refl

-- the text, and what stands before and after a "::" in it
pub data Parts : List ℕ → Cut → Type 0 where
  uncut : {s : List ℕ} → Parts s whole
  around : {l r : List ℕ} → Parts (l ++ 58 ∷ 58 ∷ r) (parted l r)

-- what is cut, with "::" between, is the text
pub cut_parts : (s : List ℕ) → Parts s (cut s)
unfolding cut
cut_parts [] = uncut
cut_parts (x ∷ s) =
    cases (eqb (class_of x) colon && begins s) (λ e. rw e (here s (both_true (eqb (class_of x) colon) (begins s) e)))
    (λ e. rw e (longer (cut_parts s)))
  where
    here : (s : List ℕ) → (eqb (class_of x) colon ≡ true) × (begins s ≡ true) → Parts (x ∷ s) (parted [] (tail s))
    here [] e = unfold begins in never e.1
    here (y ∷ s) e =
        unfold begins tail in
        rw (class_separator a_colon x (eqb-true (class_of x) colon e.0), class_separator a_colon y (eqb-true (class_of y) colon e.1)) (around {l = []})

    longer : {s : List ℕ} {q : Cut} → Parts s q → Parts (x ∷ s) (behind x q)
    longer uncut = unfold behind in uncut
    longer (around {l = l}) = unfold behind in around {l = x ∷ l}
