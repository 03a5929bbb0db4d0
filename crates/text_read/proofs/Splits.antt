-- Splitting at separators: the first field, and what stands past it.
use Rattle.std.specs.Prelude.{Some, None}
use Prim.Native.Nat.{ℕ, suc, ◌+◌, ◌*◌, ◌/◌, ◌%◌, ◌≤◌, ◌<◌}
use native.Mathlib.Nat.{zero-add, add-zero}
use native.Mathlib.Omega.{arith}
use mathlib.Core.Path.{◌≡◌, refl, sym, ap, ◌∙◌}
use mathlib.Core.Bool.{Bool, true, false, cond, ◌&&◌, true≢false}
use mathlib.Core.List.{List, [], ◌∷◌, ◌++◌}
use mathlib.Core.Option.{Option, none, some}
use lib.ListN.{length, drop, get_or, length-drop, drop_of_length-le}
use lib.Seq.{drop-drop}
use lib.Dec.{leb, ltb, eqb}
use borrow.Author.Tests.{leb-true, eqb-true, eq-eqb, ne_eqb, le-ltb}
use Rattle.laws.specs.Cases.{both_true}
use Rattle.laws.specs.Lists.{drop_next}
use Rattle.laws.specs.Options.{when_some}
use Rattle.text_read.specs.Class.{class_of, colon, dot}
use Rattle.text_read.specs.Numerals.{digits, number, no_leading_zero, group, decimal}
use Rattle.text_read.specs.Reading.{on_first, split, push, decimals, two_groups, dotted}
use Rattle.text_read.specs.declared.reader.Numeral.{Numeral}
use Rattle.text_read.specs.ReaderSteps.{until, numeral_of, group_in, decimal_in, bytes, four, dotted_from}
use Rattle.text_read.specs.theory.Options.{push_none}

-- The first field -------------------------------------------------------------------------------------------------------

-- from the first byte of class k on
unfoldable pub past : ℕ → List ℕ → List ℕ
past k [] = []
past k (x ∷ s) = cond (eqb (class_of x) k) (x ∷ s) (past k s)

unfoldable pub later : ℕ → List ℕ → List (List ℕ)
later k [] = []
later k (c ∷ r) = split k r

pub split_eq : (k : ℕ) (t : List ℕ) → split k t ≡ until k t ∷ later k (past k t)
unfolding split until past later
split_eq k [] = refl
split_eq k (x ∷ t) = go (eqb (class_of x) k) (split_eq k t)
  where
    go : (b : Bool) → split k t ≡ until k t ∷ later k (past k t)
        → cond b ([] ∷ split k t) (on_first x (split k t)) ≡ cond b [] (x ∷ until k t) ∷ later k (cond b (x ∷ t) (past k t))
    go true h = refl
    go false h = unfold on_first in rw h

-- what stands past the first field, by its place
past_drop : (k : ℕ) (t : List ℕ) → past k t ≡ drop (length (until k t)) t
unfolding until past
past_drop k [] = refl
past_drop k (x ∷ t) = go (eqb (class_of x) k) (past_drop k t)
  where
    go : (b : Bool) → past k t ≡ drop (length (until k t)) t → cond b (x ∷ t) (past k t) ≡ drop (length (cond b [] (x ∷ until k t))) (x ∷ t)
    go true h = refl
    go false h = h

past_at : (k at : ℕ) (s : List ℕ) → past k (drop at s) ≡ drop (at + length (until k (drop at s))) s
past_at k at s = past_drop k (drop at s) ∙ drop-drop (length (until k (drop at s))) at s

field_length : (k : ℕ) (t : List ℕ) → length t ≡ length (until k t) + length (past k t)
unfolding until past
field_length k [] = refl
field_length k (x ∷ t) = go (eqb (class_of x) k) (field_length k t)
  where
    go : (b : Bool) → length t ≡ length (until k t) + length (past k t)
        → length (x ∷ t) ≡ length (cond b [] (x ∷ until k t)) + length (cond b (x ∷ t) (past k t))
    go true h = sym (zero-add (length (x ∷ t)))
    go false h = omega arith

-- a text without separator is its only field
pub until_all : (k : ℕ) (t : List ℕ) → past k t ≡ [] → until k t ≡ t
unfolding until past
until_all k [] p = refl
until_all k (x ∷ t) p = go (eqb (class_of x) k) (until_all k t) p
  where
    go : (b : Bool) → (past k t ≡ [] → until k t ≡ t) → cond b (x ∷ t) (past k t) ≡ [] → cond b [] (x ∷ until k t) ≡ x ∷ t
    go true h q = let z : ◌≡◌ {A = ℕ} 0 1 = cc in absurd (omega arith)
    go false h q = rw (h q)

-- what stands past a field begins with a byte of the class
pub past_class : (k : ℕ) (t : List ℕ) (c : ℕ) (r : List ℕ) → past k t ≡ c ∷ r → class_of c ≡ k
unfolding past
past_class k [] c r p = let z : ◌≡◌ {A = ℕ} 0 1 = cc in absurd (omega arith)
past_class k (x ∷ t) c r p = go (eqb (class_of x) k) refl (past_class k t c r) p
  where
    go : (b : Bool) → eqb (class_of x) k ≡ b → (past k t ≡ c ∷ r → class_of c ≡ k) → cond b (x ∷ t) (past k t) ≡ c ∷ r → class_of c ≡ k
    go true e h q = let i : x ≡ c = cc in rw i at (eqb-true (class_of x) k e)
    go false e h q = h q

-- the field by itself, and the field with something behind a separator
pub alone : (k : ℕ) (t : List ℕ) → (until k (until k t) ≡ until k t) × (past k (until k t) ≡ [])
unfolding until past
alone k [] = (refl, refl)
alone k (x ∷ t) = go (eqb (class_of x) k) refl (alone k t)
  where
    go : (b : Bool) → eqb (class_of x) k ≡ b → (until k (until k t) ≡ until k t) × (past k (until k t) ≡ [])
        → (until k (cond b [] (x ∷ until k t)) ≡ cond b [] (x ∷ until k t)) × (past k (cond b [] (x ∷ until k t)) ≡ [])
    go true e h = (refl, refl)
    go false e h = (simp e (ap (λ (l : List ℕ). x ∷ l) h.0), simp e h.1)

pub followed : (k c : ℕ) (l t : List ℕ) → class_of c ≡ k → (until k (until k t ++ c ∷ l) ≡ until k t) × (past k (until k t ++ c ∷ l) ≡ c ∷ l)
unfolding until past
followed k c l [] z = (simp (eq-eqb _ _ z), simp (eq-eqb _ _ z))
followed k c l (x ∷ t) z = go (eqb (class_of x) k) refl (followed k c l t z)
  where
    go : (b : Bool) → eqb (class_of x) k ≡ b → (until k (until k t ++ c ∷ l) ≡ until k t) × (past k (until k t ++ c ∷ l) ≡ c ∷ l)
        → (until k (cond b [] (x ∷ until k t) ++ c ∷ l) ≡ cond b [] (x ∷ until k t)) × (past k (cond b [] (x ∷ until k t) ++ c ∷ l) ≡ c ∷ l)
    go true e h = (simp (eq-eqb _ _ z), simp (eq-eqb _ _ z))
    go false e h = (simp e (ap (λ (l : List ℕ). x ∷ l) h.0), simp e h.1)

-- The numeral in the first field ----------------------------------------------------------------------------------------

-- a numeral that is read, and where it ends
pub numeral_some : (o : Option ℕ) (e : ℕ) (p : Numeral) → numeral_of o e ≡ Some p → (o ≡ some p.value) × (e ≡ p.next)
numeral_some none e p h = let z : ◌≡◌ {A = ℕ} 0 1 = cc in absurd (omega arith)
numeral_some (some w) e p h =
    let q : (let n : Numeral = record { value = w; next = e } in n) ≡ p = cc in
    (ap (λ (n : Numeral). some n.value) q, ap (λ (n : Numeral). n.next) q)

pub numeral_bad : (o : Option ℕ) (e : ℕ) → numeral_of o e ≡ None → o ≡ none
numeral_bad none e h = refl
numeral_bad (some w) e h = let z : ◌≡◌ {A = ℕ} 0 1 = cc in absurd (omega arith)

pub numeral_if : (b : Bool) (v end : ℕ) → numeral_of (cond b (some v) none) end ≡ cond b (Some (record { value = v; next = end })) None
numeral_if true v end = refl
numeral_if false v end = refl

-- a numeral in the field of s from i on that ends at `end`: what stands past the field
pub record Past (k : ℕ) (s : List ℕ) (i end : ℕ) : Type 0 where
  pub from : i ≤ end
  pub within : end ≤ length s
  pub size : i + length (until k (drop i s)) ≡ end
  pub last : end ≡ length s → past k (drop i s) ≡ []
  pub more : end < length s → past k (drop i s) ≡ get_or s end 0 ∷ drop (end + 1) s
  pub short : end + 1 ≡ length s → past k (drop i s) ≡ get_or s end 0 ∷ []
  pub two : end + 1 < length s → past k (drop i s) ≡ get_or s end 0 ∷ get_or s (end + 1) 0 ∷ drop (end + 1 + 1) s

past_of : (k : ℕ) (s : List ℕ) (i end : ℕ) → i ≤ length s → i + length (until k (drop i s)) ≡ end → Past k s i end
past_of k s i end h e = record {
  from = omega arith;
  within = omega (arith, field_length k (drop i s), length-drop i s);
  size = e;
  last = λ q. let l : length s ≤ end = omega arith in past_at k i s ∙ rw e (drop_of_length-le s l);
  more = λ q. past_at k i s ∙ rw e (drop_next s end 0 q);
  short = λ q. let l : length s ≤ end + 1 = omega arith in past_at k i s ∙ rw (e, drop_next s end 0 (omega arith), drop_of_length-le s l);
  two = λ q. past_at k i s ∙ rw (e, drop_next s end 0 (omega arith), drop_next s (end + 1) 0 q);
}

module _ (s : List ℕ) (i : ℕ) where
  pub no_group : group_in (until colon (drop i s)) i ≡ None → group (until colon (drop i s)) ≡ none
  unfolding group_in
  no_group h = numeral_bad (group (until colon (drop i s))) (i + length (until colon (drop i s))) h

  pub no_decimal : decimal_in (until dot (drop i s)) i ≡ None → decimal (until dot (drop i s)) ≡ none
  unfolding decimal_in
  no_decimal h = numeral_bad (decimal (until dot (drop i s))) (i + length (until dot (drop i s))) h

  module _ (l : i ≤ length s) (n : Numeral) where
    pub one_group : group_in (until colon (drop i s)) i ≡ Some n → (group (until colon (drop i s)) ≡ some n.value) × Past colon s i n.next
    unfolding group_in
    one_group h =
        let p = numeral_some (group (until colon (drop i s))) (i + length (until colon (drop i s))) n h in
        (p.0, past_of colon s i n.next l p.1)

    pub one_decimal : decimal_in (until dot (drop i s)) i ≡ Some n → (decimal (until dot (drop i s)) ≡ some n.value) × Past dot s i n.next
    unfolding decimal_in
    one_decimal h =
        let p = numeral_some (decimal (until dot (drop i s))) (i + length (until dot (drop i s))) n h in
        (p.0, past_of dot s i n.next l p.1)

-- The dotted tail -------------------------------------------------------------------------------------------------------

decimals_eq : (t : List ℕ) → decimals (split dot t) ≡ push (decimal (until dot t)) (decimals (later dot (past dot t)))
unfolding decimals
decimals_eq t = rw (split_eq dot t)

four_push : (v n x : ℕ) (o : Option (List ℕ)) → four v n (push (some x) o) ≡ four (v * 256 + x) (n + 1) o
unfolding four push bytes
four_push v n x none = refl
four_push v n x (some l) = let e : n + suc (length l) ≡ n + 1 + length l = omega arith in rw e

four_many : (v n : ℕ) (o : Option (List ℕ)) → 4 < n → four v n o ≡ none
unfolding four
four_many v n none h = refl
four_many v n (some l) h = rw (ne_eqb (n + length l) 4 (λ e. omega arith))

module _ (v n : ℕ) (t : List ℕ) where
  pub dotted_bad : decimal (until dot t) ≡ none → dotted_from v n t ≡ none
  unfolding dotted_from push four
  dotted_bad e = rw (decimals_eq t, e)

  module _ (x : ℕ) (e : decimal (until dot t) ≡ some x) where
    pub dotted_many : 4 ≤ n → dotted_from v n t ≡ none
    unfolding dotted_from
    dotted_many h = rw (decimals_eq t, e, four_push) (four_many (v * 256 + x) (n + 1) (decimals (later dot (past dot t))) (omega arith))

    pub dotted_last : past dot t ≡ [] → dotted_from v n t ≡ cond (eqb (n + 1) 4) (some (v * 256 + x)) none
    unfolding dotted_from
    dotted_last p = rw (decimals_eq t, e, p, four_push) (unfold later decimals four bytes in rw (add-zero (n + 1)))

    pub dotted_more : (c : ℕ) (r : List ℕ) → past dot t ≡ c ∷ r → dotted_from v n t ≡ dotted_from (v * 256 + x) (n + 1) r
    unfolding dotted_from
    dotted_more c r p = rw (decimals_eq t, e, p, four_push) (unfold later in refl)

-- a decimal is 255 at most
pub decimal_le : (f : List ℕ) (v : ℕ) → decimal f ≡ some v → v ≤ 255
unfolding decimal
decimal_le f v e =
    let p = when_some (digits 10 f && leb 1 (length f) && leb (length f) 3 && no_leading_zero f && leb (number 10 0 f) 255) (number 10 0 f) v e in
    omega (arith, leb-true (number 10 0 f) 255 (both_true (digits 10 f && leb 1 (length f) && leb (length f) 3 && no_leading_zero f) (leb (number 10 0 f) 255) p.0).1, p.1)

abbrev Bytes : List ℕ → Type 0
Bytes [] = Unit {0}
Bytes (v ∷ l) = (v ≤ 255) × Bytes l

abbrev AllBytes : Option (List ℕ) → Type 0
AllBytes none = Unit {0}
AllBytes (some l) = Bytes l

decimals_bytes : (fs : List (List ℕ)) → AllBytes (decimals fs)
unfolding decimals
decimals_bytes [] = tt
decimals_bytes (f ∷ fs) = go (decimal f) refl (decimals fs) (decimals_bytes fs)
  where
    go : (o : Option ℕ) → decimal f ≡ o → (r : Option (List ℕ)) → AllBytes r → AllBytes (push o r)
    go none e r k = unfold push in tt
    go (some v) e none k = unfold push in tt
    go (some v) e (some l) k = unfold push in (decimal_le f v e, k)

-- the two groups of a number below 2^32
abbrev pub halves : Option ℕ → Option (List ℕ)
halves none = none
halves (some w) = some (w / 65536 ∷ w % 65536 ∷ [])

abbrev Below : Option ℕ → Type 0
Below none = Unit {0}
Below (some w) = w < 4294967296

two_halves : (o : Option (List ℕ)) → AllBytes o → (two_groups o ≡ halves (four 0 0 o)) × Below (four 0 0 o)
unfolding two_groups four bytes
two_halves none k = (refl, tt)
two_halves (some []) k = (refl, tt)
two_halves (some (a ∷ [])) k = (refl, tt)
two_halves (some (a ∷ b ∷ [])) k = (refl, tt)
two_halves (some (a ∷ b ∷ c ∷ [])) k = (refl, tt)
two_halves (some (a ∷ b ∷ c ∷ d ∷ [])) k =
    let w = (((0 * 256 + a) * 256 + b) * 256 + c) * 256 + d in
    let p : a * 256 + b ≡ w / 65536 = omega arith in
    let q : c * 256 + d ≡ w % 65536 = omega arith in
    (rw (p, q), omega arith)
two_halves (some (a ∷ b ∷ c ∷ d ∷ e ∷ l)) k =
    let p : eqb (length (a ∷ b ∷ c ∷ d ∷ e ∷ l)) 4 ≡ false = ne_eqb (length (a ∷ b ∷ c ∷ d ∷ e ∷ l)) 4 (λ z. omega arith) in
    let q : eqb (0 + length (a ∷ b ∷ c ∷ d ∷ e ∷ l)) 4 ≡ false = ne_eqb (0 + length (a ∷ b ∷ c ∷ d ∷ e ∷ l)) 4 (λ z. omega arith) in
    (rw (p, q), rw q tt)

pub dotted_halves : (t : List ℕ) → dotted t ≡ halves (dotted_from 0 0 t)
unfolding dotted dotted_from
dotted_halves t = (two_halves (decimals (split dot t)) (decimals_bytes (split dot t))).0

pub dotted_below : (t : List ℕ) (w : ℕ) → dotted_from 0 0 t ≡ some w → w < 4294967296
unfolding dotted_from
dotted_below t w e = rw e at (two_halves (decimals (split dot t)) (decimals_bytes (split dot t))).1

-- a text with a colon is no dotted one: some field of it has a byte that is no digit
all_digits : List (List ℕ) → Bool
all_digits [] = true
all_digits (f ∷ fs) = digits 10 f && all_digits fs

no_decimals : (fs : List (List ℕ)) → all_digits fs ≡ false → decimals fs ≡ none
unfolding all_digits decimals
no_decimals [] h = absurd (true≢false h)
no_decimals (f ∷ fs) h = go (digits 10 f) refl (no_decimals fs) h
  where
    go : (b : Bool) → digits 10 f ≡ b → (all_digits fs ≡ false → decimals fs ≡ none) → (b && all_digits fs) ≡ false → push (decimal f) (decimals fs) ≡ none
    go true e ih q = rw (ih q) (push_none (decimal f))
    go false e ih q =
        let d : decimal f ≡ none = unfold decimal in rw e in
        rw d (unfold push in refl)

digits_first : (t : List ℕ) → all_digits (split dot t) ≡ (digits 10 (until dot t) && all_digits (later dot (past dot t)))
unfolding all_digits
digits_first t = rw (split_eq dot t)

digits_on : (x : ℕ) (t : List ℕ) → all_digits (on_first x (split dot t)) ≡ (ltb (class_of x) 10 && digits 10 (until dot t) && all_digits (later dot (past dot t)))
unfolding all_digits on_first digits
digits_on x t = rw (split_eq dot t)

digits_past : (t : List ℕ) (c : ℕ) (r : List ℕ) → past colon t ≡ c ∷ r → all_digits (split dot t) ≡ false
unfolding past split
digits_past [] c r p = let z : ◌≡◌ {A = ℕ} 0 1 = cc in absurd (omega arith)
digits_past (x ∷ t) c r p = go (eqb (class_of x) colon) refl (eqb (class_of x) dot) refl (digits_past t c r) p
  where
    more : (a b d : Bool) → (b && d) ≡ false → (a && b && d) ≡ false
    more true b d h = h
    more false b d h = refl

    go : (a : Bool) → eqb (class_of x) colon ≡ a → (b : Bool) → eqb (class_of x) dot ≡ b → (past colon t ≡ c ∷ r → all_digits (split dot t) ≡ false)
        → cond a (x ∷ t) (past colon t) ≡ c ∷ r → all_digits (cond b ([] ∷ split dot t) (on_first x (split dot t))) ≡ false
    go true e true f ih q = let z : ◌≡◌ {A = ℕ} 16 17 = sym (eqb-true (class_of x) colon e) ∙ eqb-true (class_of x) dot f in absurd (omega arith)
    go true e false f ih q = digits_on x t ∙ rw (le-ltb (class_of x) 10 (omega (arith, eqb-true (class_of x) colon e)))
    go false e true f ih q = unfold all_digits digits in ih q
    go false e false f ih q =
        digits_on x t ∙ more (ltb (class_of x) 10) (digits 10 (until dot t)) (all_digits (later dot (past dot t))) (sym (digits_first t) ∙ ih q)

pub dotted_colon : (t : List ℕ) (c : ℕ) (r : List ℕ) → past colon t ≡ c ∷ r → dotted t ≡ none
unfolding dotted two_groups
dotted_colon t c r p = rw (no_decimals (split dot t) (digits_past t c r p))
