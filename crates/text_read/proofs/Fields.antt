-- Fields and the numerals in them: what a field gives where some of its digits are read already, by the class of the next byte.
use Rattle.std.specs.Prelude.{Option as Found, Some, None}
use Prim.Native.Nat.{ℕ, zero, suc, ◌+◌, ◌*◌, ◌≤◌, ◌<◌, ◌^◌}
use native.Mathlib.Nat.{zero-add, add-zero, pow-le-pow_right, lt_of_lt_of_le}
use native.Mathlib.Omega.{arith}
use mathlib.Core.Path.{◌≡◌, refl, sym, ◌∙◌}
use mathlib.Core.Logic.{◌⊎◌, inl, inr, ⊎_elim}
use mathlib.Core.Bool.{Bool, true, false, cond, not, ◌&&◌, and-true, and-false}
use mathlib.Core.List.{List, [], ◌∷◌}
use mathlib.Core.Option.{Option, none, some}
use lib.ListN.{length, drop, get_or, drop_of_length-le}
use lib.Bits.{bit_or, or_add_and, or_lt, and_le_l, and_le_r}
use lib.Dec.{leb, ltb, eqb, lit<, lit≤}
use borrow.Author.Tests.{ltb-true, ltb-false, leb-true, eqb-true, eqb-false, lt-ltb, le-ltb, le-leb, lt-leb, eq-eqb, ne_eqb}
use Rattle.laws.specs.Cases.{cases, both_true, cond_same}
use Rattle.laws.specs.Lists.{drop_next}
use Rattle.text_read.specs.Class.{class_of, colon, dot, within as between}
use Rattle.text_read.specs.Numerals.{digits, number, group, decimal, no_leading_zero}
use Rattle.text_read.specs.Classes.{class_at, Five}
use Rattle.text_read.specs.ReaderSteps.{by_length, until, numeral_of, group_in, decimal_in}
use Rattle.text_read.specs.declared.reader.Numeral.{Numeral}

-- The field by places ---------------------------------------------------------------------------------------------------

until_stop : (k x : ℕ) (s : List ℕ) → class_of x ≡ k → until k (x ∷ s) ≡ []
unfolding until
until_stop k x s e = simp (eq-eqb _ _ e)

until_go : (k x : ℕ) (s : List ℕ) → (class_of x ≡ k → ⊥) → until k (x ∷ s) ≡ x ∷ until k s
unfolding until
until_go k x s n = simp (ne_eqb _ _ n)

pub class_here : (e : ℕ) (s : List ℕ) (i : ℕ) → i < length s → class_at e s i ≡ class_of (get_or s i 0)
unfolding class_at
class_here e s i h = rw (lt-ltb i (length s) h)

class_past : (e : ℕ) (s : List ℕ) (i : ℕ) → length s ≤ i → class_at e s i ≡ e
unfolding class_at
class_past e s i h = rw (le-ltb i (length s) h)

module _ (k : ℕ) (s : List ℕ) (i : ℕ) where
  -- the field ends where a byte of class k stands, or the text ends
  field_stop : class_at k s i ≡ k → until k (drop i s) ≡ []
  field_stop e = cases (ltb i (length s))
      (λ t. let h : i < length s = ltb-true i (length s) t in rw (drop_next s i 0 h) (until_stop k (get_or s i 0) (drop (i + 1) s) (sym (class_here k s i h) ∙ e)))
      (λ t. let h : length s ≤ i = ltb-false i (length s) t in rw (drop_of_length-le s h) (unfold until in refl))

  -- elsewhere it goes on
  pub within : (class_at k s i ≡ k → ⊥) → i < length s
  within n = cases (ltb i (length s)) (λ t. ltb-true i (length s) t) (λ t. absurd (n (class_past k s i (ltb-false i (length s) t))))

  field_more : (class_at k s i ≡ k → ⊥) → until k (drop i s) ≡ get_or s i 0 ∷ until k (drop (i + 1) s)
  field_more n =
      let h : i < length s = within n in
      rw (drop_next s i 0 h) (until_go k (get_or s i 0) (drop (i + 1) s) (λ e. n (class_here k s i h ∙ e)))

  class_more : (class_at k s i ≡ k → ⊥) → class_of (get_or s i 0) ≡ class_at k s i
  class_more n = sym (class_here k s i (within n))

-- at most m digits
pub digit_most : (b n m v : ℕ) → 0 < b → v < b ^ n → n ≤ m → v < b ^ m
digit_most b n m v p h l = lt_of_lt_of_le h (pow-le-pow_right p l)

-- Groups ----------------------------------------------------------------------------------------------------------------

-- `group`, where n digits with the value v are read already
group_from : ℕ → ℕ → List ℕ → Option ℕ
group_from n v f = cond (digits 16 f && leb 1 (n + length f) && leb (n + length f) 4) (some (number 16 v f)) none

group_rest : ℕ → ℕ → ℕ → List ℕ → Found Numeral
group_rest n v i f = numeral_of (group_from n v f) (i + length f)

group_step : (n v i x : ℕ) (f : List ℕ) → class_of x < 16 → group_rest n v i (x ∷ f) ≡ group_rest (n + 1) (v * 16 + class_of x) (i + 1) f
unfolding group_rest group_from digits number
group_step n v i x f h =
    let a : n + suc (length f) ≡ n + 1 + length f = omega arith in
    let b : i + suc (length f) ≡ i + 1 + length f = omega arith in
    simp (lt-ltb _ _ h, a, b)

group_other : (n v i x : ℕ) (f : List ℕ) → 15 < class_of x → group_rest n v i (x ∷ f) ≡ None
unfolding group_rest group_from digits
group_other n v i x f h = simp (le-ltb _ _ h)

group_many : (n v i x : ℕ) (f : List ℕ) → 3 < n → group_rest n v i (x ∷ f) ≡ None
unfolding group_rest group_from
group_many n v i x f h =
    let a : 4 < n + suc (length f) = omega arith in
    simp (lt-leb _ _ a, and-false)

group_end : (n v i : ℕ) → n ≤ 4 → group_rest n v i [] ≡ numeral_of (cond (leb 1 n) (some v) none) i
unfolding group_rest group_from digits number
group_end n v i h = simp (add-zero, le-leb _ _ h, and-true)

module _ (s : List ℕ) (i : ℕ) where
  -- the group in the field of which n digits with the value v stand before i
  group_at : ℕ → ℕ → Found Numeral
  group_at n v = group_rest n v i (until colon (drop i s))

  group_start : group_in (until colon (drop i s)) i ≡ group_at 0 0
  unfolding group_in group_at group_rest group_from group
  group_start = simp zero-add

  group_bad : 15 < class_at colon s i → group_at 0 0 ≡ None
  unfolding group_at
  group_bad h = cases (eqb (class_at colon s i) colon)
      (λ t. rw (field_stop colon s i (eqb-true (class_at colon s i) colon t)) (group_end 0 0 i (omega arith)))
      (λ t. let n : class_at colon s i ≡ colon → ⊥ = eqb-false (class_at colon s i) colon t in
      rw (field_more colon s i n) (group_other 0 0 i (get_or s i 0) (until colon (drop (i + 1) s)) (rw (class_more colon s i n) h)))

  module _ (n v : ℕ) where
    -- nothing or no digit follows, or four digits are there: the group ends here, or there is none
    group_ended : 1 ≤ n → n ≤ 4 → (15 < class_at colon s i) ⊎ (3 < n)
        → group_at n v ≡ cond (eqb (class_at colon s i) colon) (Some (record { value = v; next = i })) None
    unfolding group_at
    group_ended l m o = cases (eqb (class_at colon s i) colon)
        (λ t. rw (t, field_stop colon s i (eqb-true (class_at colon s i) colon t), group_end n v i m, le-leb 1 n l))
        (λ t. let d : class_at colon s i ≡ colon → ⊥ = eqb-false (class_at colon s i) colon t in
        rw (t, field_more colon s i d)
        (⊎_elim (λ h. group_other n v i (get_or s i 0) (until colon (drop (i + 1) s)) (rw (class_more colon s i d) h)) (λ h. group_many n v i (get_or s i 0) (until colon (drop (i + 1) s)) h) o))

group_digit : (s : List ℕ) (i n v : ℕ) → class_at colon s i < 16 → group_at s i n v ≡ group_at s (i + 1) (n + 1) (v * 16 + class_at colon s i)
unfolding group_at
group_digit s i n v h =
    let d : class_at colon s i ≡ colon → ⊥ = λ e. omega arith in
    rw (field_more colon s i d)
    (group_step n v i (get_or s i 0) (until colon (drop (i + 1) s)) (rw (class_more colon s i d) h)
    ∙ rw (class_more colon s i d))

group_on : (s : List ℕ) (f : Found Numeral) (i n v k j m w : ℕ) → f ≡ group_at s i n v → k ≡ class_at colon s i → k < 16
    → j ≡ i + 1 → m ≡ n + 1 → w ≡ v * 16 + k → f ≡ group_at s j m w
group_on s f i n v k j m w h e l ej em ew = h ∙ group_digit s i n v (rw (sym e) l) ∙ rw (ej, em, ew, e)

group_close : (s : List ℕ) (f : Found Numeral) (i n v k : ℕ) → f ≡ group_at s i n v → k ≡ class_at colon s i → 1 ≤ n → n ≤ 4 → (15 < k) ⊎ (3 < n)
    → f ≡ cond (eqb k colon) (Some (record { value = v; next = i })) None
group_close s f i n v k h e l m o = h ∙ group_ended s i n v l m (rw (sym e) o) ∙ rw e

-- the group by the classes of the first five bytes
module _ (s : List ℕ) (at a b c d e : ℕ) (f : Five s at a b c d e) where
  abbrev Whole : Found Numeral
  Whole = group_in (until colon (drop at s)) at

  pub group_none : 15 < a → group_in (until colon (drop at s)) at ≡ None
  group_none h = group_start s at ∙ group_bad s at (rw (sym f.one) h)

  module _ (la : a < 16) where
    one_digit : Whole ≡ group_at s (at + 1) 1 a
    one_digit = group_on s Whole at 0 0 a (at + 1) 1 a (group_start s at) f.one la refl refl (omega arith)

    group_one : 15 < b → group_in (until colon (drop at s)) at ≡ cond (eqb b colon) (Some (record { value = a; next = (at + 1) })) None
    group_one h = group_close s Whole (at + 1) 1 a b one_digit f.two (omega arith) (omega arith) (inl h)

    module _ (lb : b < 16) where
      two_digits : Whole ≡ group_at s (at + 2) 2 (a * 16 + b)
      two_digits = group_on s Whole (at + 1) 1 a b (at + 2) 2 (a * 16 + b) one_digit f.two lb (omega arith) refl refl

      group_two : 15 < c → group_in (until colon (drop at s)) at ≡ cond (eqb c colon) (Some (record { value = (a * 16 + b); next = (at + 2) })) None
      group_two h = group_close s Whole (at + 2) 2 (a * 16 + b) c two_digits f.three (omega arith) (omega arith) (inl h)

      module _ (lc : c < 16) where
        three_digits : Whole ≡ group_at s (at + 3) 3 ((a * 16 + b) * 16 + c)
        three_digits = group_on s Whole (at + 2) 2 (a * 16 + b) c (at + 3) 3 ((a * 16 + b) * 16 + c) two_digits f.three lc (omega arith) refl refl

        group_three : 15 < d → group_in (until colon (drop at s)) at ≡ cond (eqb d colon) (Some (record { value = ((a * 16 + b) * 16 + c); next = (at + 3) })) None
        group_three h = group_close s Whole (at + 3) 3 ((a * 16 + b) * 16 + c) d three_digits f.four (omega arith) (omega arith) (inl h)

        pub group_four : d < 16
            → group_in (until colon (drop at s)) at ≡ cond (eqb e colon) (Some (record { value = (((a * 16 + b) * 16 + c) * 16 + d); next = (at + 4) })) None
        group_four ld =
            group_close s Whole (at + 4) 4 (((a * 16 + b) * 16 + c) * 16 + d) e
            (group_on s Whole (at + 3) 3 ((a * 16 + b) * 16 + c) d (at + 4) 4 (((a * 16 + b) * 16 + c) * 16 + d) three_digits f.four ld (omega arith) refl refl)
            f.five (omega arith) (omega arith) (inr (omega arith))

-- a shorter group, by its length
pub by_one : (b c x y z : ℕ) → 15 < b → by_length b c x y z ≡ x
unfolding by_length
by_one b c x y z h = rw (lt-ltb 15 b h)

pub by_two : (b c x y z : ℕ) → b ≤ 15 → 15 < c → by_length b c x y z ≡ y
unfolding by_length
by_two b c x y z l h = rw (le-ltb 15 b l, lt-ltb 15 c h)

pub by_three : (b c x y z : ℕ) → b ≤ 15 → c ≤ 15 → by_length b c x y z ≡ z
unfolding by_length
by_three b c x y z l m = rw (le-ltb 15 b l, le-ltb 15 c m)

pub three_most : (b c : ℕ) → by_length b c 1 2 3 ≤ 3
three_most b c = cases (ltb 15 b)
    (λ t. rw (by_one b c 1 2 3 (ltb-true 15 b t)) (lit≤ tt))
    (λ t. cases (ltb 15 c)
    (λ u. rw (by_two b c 1 2 3 (ltb-false 15 b t) (ltb-true 15 c u)) (lit≤ tt))
    (λ u. rw (by_three b c 1 2 3 (ltb-false 15 b t) (ltb-false 15 c u)) (lit≤ tt)))

pub group_short : (s : List ℕ) (at a b c d e v n k : ℕ) → Five s at a b c d e → a < 16 → (b < 16 → c < 16 → 15 < d)
    → v ≡ by_length b c a (a * 16 + b) ((a * 16 + b) * 16 + c) → n ≡ by_length b c 1 2 3 → k ≡ by_length b c b c d
    → group_in (until colon (drop at s)) at ≡ cond (eqb k colon) (Some (record { value = v; next = (at + n) })) None
group_short s at a b c d e v n k f la ld ev en ek = cases (ltb 15 b)
    (λ t.
    let h : 15 < b = ltb-true 15 b t in
    rw (ev ∙ by_one b c _ _ _ h, en ∙ by_one b c _ _ _ h, ek ∙ by_one b c _ _ _ h) (group_one s at a b c d e f la h))
    (λ t.
    let l : b ≤ 15 = ltb-false 15 b t in
    cases (ltb 15 c)
    (λ u.
    let h : 15 < c = ltb-true 15 c u in
    rw (ev ∙ by_two b c _ _ _ l h, en ∙ by_two b c _ _ _ l h, ek ∙ by_two b c _ _ _ l h) (group_two s at a b c d e f la (omega arith) h))
    (λ u.
    let m : c ≤ 15 = ltb-false 15 c u in
    rw (ev ∙ by_three b c _ _ _ l m, en ∙ by_three b c _ _ _ l m, ek ∙ by_three b c _ _ _ l m) (group_three s at a b c d e f la (omega arith) (omega arith) (ld (omega arith) (omega arith)))))

-- no class is above 18
class_most : (b : ℕ) → class_of b ≤ 18
unfolding class_of
class_most b = cases (between 48 57 b)
    (λ t. rw t (omega (arith, leb-true b 57 (both_true (leb 48 b) (leb b 57) t).1)))
    (λ t. rw t (cases (between 65 70 b)
    (λ u. rw u (omega (arith, leb-true b 70 (both_true (leb 65 b) (leb b 70) u).1)))
    (λ u. rw u (cases (between 97 102 b)
    (λ v. rw v (omega (arith, leb-true b 102 (both_true (leb 97 b) (leb b 102) v).1)))
    (λ v. rw v (cases (eqb b 58)
    (λ w. rw w (lit≤ tt))
    (λ w. rw w (cases (eqb b 46) (λ x. rw x (lit≤ tt)) (λ x. rw x (lit≤ tt))))))))))

class_at_most : (s : List ℕ) (i : ℕ) → class_at colon s i ≤ 18
unfolding class_at
class_at_most s i = cases (ltb i (length s)) (λ t. rw t (class_most (get_or s i 0))) (λ t. rw t (lit≤ tt))

pub five_most : (s : List ℕ) (at a b c d e : ℕ) → Five s at a b c d e → (b ≤ 18) × (c ≤ 18)
five_most s at a b c d e f = (rw f.two (class_at_most s (at + 1)), rw f.three (class_at_most s (at + 2)))

-- four digits, if their bits together are those of a digit
or_left : (a b : ℕ) → a ≤ bit_or a b
or_left a b = omega (arith, or_add_and a b, and_le_r a b)

or_right : (a b : ℕ) → b ≤ bit_or a b
or_right a b = omega (arith, or_add_and a b, and_le_l a b)

pub digits_below : (a b c d : ℕ) → bit_or (bit_or (bit_or a b) c) d < 16 → (a < 16) × (b < 16) × (c < 16) × (d < 16)
digits_below a b c d h =
    let p = bit_or (bit_or a b) c in
    let q : bit_or a b ≤ p = or_left (bit_or a b) c in
    let r : p ≤ bit_or p d = or_left p d in
    (omega (arith, or_left a b), omega (arith, or_right a b), omega (arith, or_right (bit_or a b) c), omega (arith, or_right p d))

-- the fourth is none, if the first three are digits and not all four are
pub digit_above : (a b c d : ℕ) → 15 < bit_or (bit_or (bit_or a b) c) d → a < 16 → b < 16 → c < 16 → 15 < d
digit_above a b c d h la lb lc =
    cases (ltb 15 d) (λ t. ltb-true 15 d t)
    (λ t. absurd (omega (arith, or_lt 4 (bit_or (bit_or a b) c) d (or_lt 4 (bit_or a b) c (or_lt 4 a b la lb) lc) (omega (arith, ltb-false 15 d t)))))

-- Decimals --------------------------------------------------------------------------------------------------------------

abbrev empty : List ℕ → Bool
empty [] = true
empty (x ∷ f) = false

-- `no_leading_zero`, where n digits with the value v are read already
abbrev no_zero_from : ℕ → ℕ → List ℕ → Bool
no_zero_from n v f = cond (eqb n 0) (no_leading_zero f) (cond (empty f) true (not (eqb v 0)))

-- `decimal`, where n digits with the value v are read already
decimal_from : ℕ → ℕ → List ℕ → Option ℕ
decimal_from n v f =
    cond (digits 10 f && leb 1 (n + length f) && leb (n + length f) 3 && no_zero_from n v f && leb (number 10 v f) 255) (some (number 10 v f)) none

decimal_rest : ℕ → ℕ → ℕ → List ℕ → Found Numeral
decimal_rest n v i f = numeral_of (decimal_from n v f) (i + length f)

-- the first digit
zero_first : (k x : ℕ) (f : List ℕ) → k ≡ class_of x → no_leading_zero (x ∷ f) ≡ cond (empty f) true (not (eqb k 0))
unfolding no_leading_zero
zero_first k x [] e = refl
zero_first k x (y ∷ f) e = rw e

-- a further digit, after a value that is not 0
zero_later : (k : ℕ) (f : List ℕ) → 0 < k → cond (empty f) true (not (eqb k 0)) ≡ true
zero_later k [] p = refl
zero_later k (y ∷ f) p = rw (ne_eqb k 0 (λ e. omega arith))

zero_step : (n v x : ℕ) (f : List ℕ) → v < 10 ^ n → (0 < n → v ≡ 0 → ⊥) → no_zero_from n v (x ∷ f) ≡ no_zero_from (n + 1) (v * 10 + class_of x) f
zero_step zero v x f b p =
    let z : v ≡ 0 = omega arith in
    zero_first (v * 10 + class_of x) x f (omega arith)
zero_step (suc n) v x f b p =
    let q : v ≡ 0 → ⊥ = p (omega arith) in
    let r : 0 < v * 10 + class_of x = omega (arith, q) in
    rw (ne_eqb (suc n) 0 (λ e. omega arith), ne_eqb v 0 q, ne_eqb (suc n + 1) 0 (λ e. omega arith)) (sym (zero_later (v * 10 + class_of x) f r))

decimal_step : (n v i x : ℕ) (f : List ℕ) → class_of x < 10 → v < 10 ^ n → (0 < n → v ≡ 0 → ⊥)
    → decimal_rest n v i (x ∷ f) ≡ decimal_rest (n + 1) (v * 10 + class_of x) (i + 1) f
unfolding decimal_rest decimal_from digits number
decimal_step n v i x f h b p =
    let a : n + suc (length f) ≡ n + 1 + length f = omega arith in
    let c : i + suc (length f) ≡ i + 1 + length f = omega arith in
    simp (lt-ltb _ _ h, a, c, zero_step n v x f b p)

decimal_other : (n v i x : ℕ) (f : List ℕ) → 9 < class_of x → decimal_rest n v i (x ∷ f) ≡ None
unfolding decimal_rest decimal_from digits
decimal_other n v i x f h = simp (le-ltb _ _ h)

decimal_many : (n v i x : ℕ) (f : List ℕ) → 2 < n → decimal_rest n v i (x ∷ f) ≡ None
unfolding decimal_rest decimal_from
decimal_many n v i x f h =
    let a : 3 < n + suc (length f) = omega arith in
    simp (lt-leb _ _ a, and-false)

decimal_second : (n v i x : ℕ) (f : List ℕ) → 0 < n → v ≡ 0 → decimal_rest n v i (x ∷ f) ≡ None
unfolding decimal_rest decimal_from
decimal_second n v i x f h e = simp (ne_eqb n 0 (λ z. omega arith), eq-eqb v 0 e, and-false)

decimal_end : (n v i : ℕ) → n ≤ 3 → decimal_rest n v i [] ≡ numeral_of (cond (leb 1 n && leb v 255) (some v) none) i
unfolding decimal_rest decimal_from digits number no_leading_zero
decimal_end n v i h = simp (add-zero, le-leb _ _ h, and-true, cond_same)

module _ (s : List ℕ) (i : ℕ) where
  -- the decimal in the field of which n digits with the value v stand before i
  decimal_at : ℕ → ℕ → Found Numeral
  decimal_at n v = decimal_rest n v i (until dot (drop i s))

  decimal_start : decimal_in (until dot (drop i s)) i ≡ decimal_at 0 0
  unfolding decimal_in decimal_at decimal_rest decimal_from decimal
  decimal_start = simp zero-add

  decimal_bad : 9 < class_at dot s i → decimal_at 0 0 ≡ None
  unfolding decimal_at
  decimal_bad h = cases (eqb (class_at dot s i) dot)
      (λ t. rw (field_stop dot s i (eqb-true (class_at dot s i) dot t)) (decimal_end 0 0 i (omega arith)))
      (λ t. let n : class_at dot s i ≡ dot → ⊥ = eqb-false (class_at dot s i) dot t in
      rw (field_more dot s i n) (decimal_other 0 0 i (get_or s i 0) (until dot (drop (i + 1) s)) (rw (class_more dot s i n) h)))

  module _ (n v : ℕ) where
    -- nothing or no digit follows, or three digits are there: the decimal ends here, or there is none
    decimal_ended : 1 ≤ n → n ≤ 3 → v ≤ 255 → (9 < class_at dot s i) ⊎ (2 < n)
        → decimal_at n v ≡ cond (eqb (class_at dot s i) dot) (Some (record { value = v; next = i })) None
    unfolding decimal_at
    decimal_ended l m b o = cases (eqb (class_at dot s i) dot)
        (λ t. rw (t, field_stop dot s i (eqb-true (class_at dot s i) dot t), decimal_end n v i m, le-leb 1 n l, le-leb v 255 b))
        (λ t. let d : class_at dot s i ≡ dot → ⊥ = eqb-false (class_at dot s i) dot t in
        rw (t, field_more dot s i d)
        (⊎_elim (λ h. decimal_other n v i (get_or s i 0) (until dot (drop (i + 1) s)) (rw (class_more dot s i d) h)) (λ h. decimal_many n v i (get_or s i 0) (until dot (drop (i + 1) s)) h) o))

    -- a digit after a leading zero
    decimal_leading : 1 ≤ n → v ≡ 0 → class_at dot s i < 10 → decimal_at n v ≡ None
    unfolding decimal_at
    decimal_leading l e h =
        let d : class_at dot s i ≡ dot → ⊥ = λ z. omega arith in
        rw (field_more dot s i d) (decimal_second n v i (get_or s i 0) (until dot (drop (i + 1) s)) l e)

    -- three digits, and more than 255
    decimal_large : n ≡ 3 → 255 < v → decimal_at n v ≡ None
    unfolding decimal_at
    decimal_large e h = cases (eqb (class_at dot s i) dot)
        (λ t. rw (field_stop dot s i (eqb-true (class_at dot s i) dot t), decimal_end n v i (omega arith), lt-leb v 255 h, and-false))
        (λ t. rw (field_more dot s i (eqb-false (class_at dot s i) dot t)) (decimal_many n v i (get_or s i 0) (until dot (drop (i + 1) s)) (omega arith)))

decimal_digit : (s : List ℕ) (i n v : ℕ) → class_at dot s i < 10 → v < 10 ^ n → (0 < n → v ≡ 0 → ⊥)
    → decimal_at s i n v ≡ decimal_at s (i + 1) (n + 1) (v * 10 + class_at dot s i)
unfolding decimal_at
decimal_digit s i n v h b p =
    let d : class_at dot s i ≡ dot → ⊥ = λ e. omega arith in
    rw (field_more dot s i d)
    (decimal_step n v i (get_or s i 0) (until dot (drop (i + 1) s)) (rw (class_more dot s i d) h) b p
    ∙ rw (class_more dot s i d))

decimal_on : (s : List ℕ) (f : Found Numeral) (i n v k j m w : ℕ) → f ≡ decimal_at s i n v → k ≡ class_at dot s i → k < 10 → v < 10 ^ n → (0 < n → v ≡ 0 → ⊥)
    → j ≡ i + 1 → m ≡ n + 1 → w ≡ v * 10 + k → f ≡ decimal_at s j m w
decimal_on s f i n v k j m w h e l b z ej em ew = h ∙ decimal_digit s i n v (rw (sym e) l) b z ∙ rw (ej, em, ew, e)

decimal_close : (s : List ℕ) (f : Found Numeral) (i n v k : ℕ) → f ≡ decimal_at s i n v → k ≡ class_at dot s i → 1 ≤ n → n ≤ 3 → v ≤ 255 → (9 < k) ⊎ (2 < n)
    → f ≡ cond (eqb k dot) (Some (record { value = v; next = i })) None
decimal_close s f i n v k h e l m b o = h ∙ decimal_ended s i n v l m b (rw (sym e) o) ∙ rw e

-- the decimal by the classes of the bytes, one after the other
module _ (s : List ℕ) (at a : ℕ) (ea : a ≡ class_at dot s at) where
  abbrev Number : Found Numeral
  Number = decimal_in (until dot (drop at s)) at

  pub decimal_none : 9 < a → decimal_in (until dot (drop at s)) at ≡ None
  decimal_none h = decimal_start s at ∙ decimal_bad s at (rw (sym ea) h)

  module _ (la : a < 10) (b : ℕ) (eb : b ≡ class_at dot s (at + 1)) where
    one_decimal : Number ≡ decimal_at s (at + 1) 1 a
    one_decimal = decimal_on s Number at 0 0 a (at + 1) 1 a (decimal_start s at) ea la (lit< tt) (λ p z. omega arith) refl refl (omega arith)

    pub decimal_one : 9 < b → decimal_in (until dot (drop at s)) at ≡ cond (eqb b dot) (Some (record { value = a; next = (at + 1) })) None
    decimal_one h = decimal_close s Number (at + 1) 1 a b one_decimal eb (omega arith) (omega arith) (omega arith) (inl h)

    pub decimal_zero : b < 10 → a ≡ 0 → decimal_in (until dot (drop at s)) at ≡ None
    decimal_zero h e = one_decimal ∙ decimal_leading s (at + 1) 1 a (omega arith) e (rw (sym eb) h)

    module _ (lb : b < 10) (na : a ≡ 0 → ⊥) (c : ℕ) (ec : c ≡ class_at dot s (at + 2)) where
      two_decimals : Number ≡ decimal_at s (at + 2) 2 (a * 10 + b)
      two_decimals = decimal_on s Number (at + 1) 1 a b (at + 2) 2 (a * 10 + b) one_decimal eb lb la (λ p z. na z) (omega arith) refl refl

      pub decimal_two : 9 < c → decimal_in (until dot (drop at s)) at ≡ cond (eqb c dot) (Some (record { value = (a * 10 + b); next = (at + 2) })) None
      decimal_two h = decimal_close s Number (at + 2) 2 (a * 10 + b) c two_decimals ec (omega arith) (omega arith) (omega arith) (inl h)

      module _ (lc : c < 10) where
        three_decimals : Number ≡ decimal_at s (at + 3) 3 ((a * 10 + b) * 10 + c)
        three_decimals =
            decimal_on s Number (at + 2) 2 (a * 10 + b) c (at + 3) 3 ((a * 10 + b) * 10 + c)
            two_decimals ec lc (omega arith) (λ p z. na (omega arith)) (omega arith) refl refl

        pub decimal_over : 255 < (a * 10 + b) * 10 + c → decimal_in (until dot (drop at s)) at ≡ None
        decimal_over h = three_decimals ∙ decimal_large s (at + 3) 3 ((a * 10 + b) * 10 + c) refl h

        pub decimal_three : (a * 10 + b) * 10 + c ≤ 255 → (d : ℕ) → d ≡ class_at dot s (at + 3)
            → decimal_in (until dot (drop at s)) at ≡ cond (eqb d dot) (Some (record { value = ((a * 10 + b) * 10 + c); next = (at + 3) })) None
        decimal_three h d ed = decimal_close s Number (at + 3) 3 ((a * 10 + b) * 10 + c) d three_decimals ed (omega arith) (omega arith) h (inr (omega arith))
