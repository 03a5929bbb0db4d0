-- Laws of labels, and of reading one digit by digit.
use mathlib.Core.Path.{◌≡◌, refl, sym, ap, ◌∙◌}
use mathlib.Core.Bool.{true, false, true≢false, ◌&&◌, and-false}
use mathlib.Core.List.{List, [], ◌∷◌}
use mathlib.Core.Option.{none, some}
use mathlib.Core.Option as maybe
use Prim.Native.Nat.{ℕ, ◌+◌, ◌-◌, ◌*◌, ◌^◌, ◌≤◌, ◌<◌}
use native.Mathlib.Nat.{pow-suc, pow-le-pow_right, lt_of_lt_of_le}
use native.Mathlib.Numerals.{add-one}
use native.Mathlib.Omega.{arith}
use lib.Arith.{digits_lt}
use lib.ListN.{length, get_or, drop, drop_of_length-le}
use lib.Dec.{eqb, leb, ltb, lit<}
use borrow.Author.Tests.{lt-ltb, ltb-true, le-leb, lt-leb, leb-true, ne_eqb, eqb-true}
use Rattle.laws.specs.Cases.{cases, both_true}
use Rattle.laws.specs.Lists.{drop_next}
use Rattle.text_read.specs.Class.{class_of}
use Rattle.text_read.specs.Numerals.{digits, number, no_leading_zero}
use Rattle.text_read.specs.Grammar.{decimal_digit}
use Rattle.text_read.specs.theory.Bytes.{digit_class, class_decimal}
use Rattle.text_read.specs.theory.Numerals.{digits_first}
use Rattle.program_commands.specs.Command.{label_of}
use Rattle.program_commands.specs.Steps.{NumberRead, label_read}
use Rattle.program_commands.specs.theory.Labels.{label_means}
use Rattle.std.specs.Prelude.{Option, Some, None}
use Rattle.std.specs.Char.{is_ascii_digit}

-- What a label is ------------------------------------------------------------------------------------------------------

module _ (y : List ℕ) where
  label_is : digits 10 y ≡ true → 1 ≤ length y → length y ≤ 3 → no_leading_zero y ≡ true → label_of y ≡ some (number 10 0 y)
  unfolding label_of
  label_is d l h z = rw (d, le-leb 1 (length y) l, le-leb (length y) 3 h, z)

  label_other : digits 10 y ≡ false → label_of y ≡ none
  unfolding label_of
  label_other d = rw d

  label_zero : no_leading_zero y ≡ false → label_of y ≡ none
  unfolding label_of
  label_zero z = rw (z, and-false (digits 10 y && leb 1 (length y) && leb (length y) 3))

  pub label_long : 3 < length y → label_of y ≡ none
  unfolding label_of
  label_long h = rw (lt-leb (length y) 3 h, and-false (digits 10 y && leb 1 (length y)))

-- nothing is no label
pub label_past : (s : List ℕ) → length s ≤ 0 → label_of s ≡ none
unfolding label_of digits
label_past [] h = refl
label_past (b ∷ s) h = absurd (omega arith)

-- three digits are a number below 1000
three : (y : List ℕ) → digits 10 y ≡ true → length y ≤ 3 → number 10 0 y < 1000
unfolding number
three [] d h = omega arith
three (a ∷ []) d h = let p = digits_first 10 a [] d in omega arith
three (a ∷ b ∷ []) d h =
    let p = digits_first 10 a (b ∷ []) d in
    let q = digits_first 10 b [] p.1 in
    omega arith
three (a ∷ b ∷ c ∷ []) d h =
    let p = digits_first 10 a (b ∷ c ∷ []) d in
    let q = digits_first 10 b (c ∷ []) p.1 in
    let r = digits_first 10 c [] q.1 in
    omega arith
three (a ∷ b ∷ c ∷ x ∷ y) d h = absurd (omega arith)

pub label_below : (y : List ℕ) (v : ℕ) → label_of y ≡ some v → v < 1000
label_below y v e = let m = label_means y v e in omega (arith, three y m.ten m.high)

-- A number that was read is the label, where there is no leading zero
pub number_label : (y : List ℕ) (o : Option ℕ) → NumberRead y o → 1 ≤ length y → length y ≤ 3 → no_leading_zero y ≡ true → o ≡ label_read (label_of y)
number_label y None d l h z = rw (label_other y d) refl
number_label y (Some n) d l h z = rw (label_is y d.0 l h z) (ap {B = Option ℕ} Some (sym d.1))

-- A label as it is answered ---------------------------------------------------------------------------------------------

pub read_as_none : (m : maybe.Option ℕ) → None ≡ label_read m → m ≡ none
read_as_none none e = refl
read_as_none (some v) e = cc

pub read_as_some : (m : maybe.Option ℕ) (v : ℕ) → Some v ≡ label_read m → m ≡ some v
read_as_some none v e = cc
read_as_some (some w) v e = cc

-- Decimal digits -------------------------------------------------------------------------------------------------------

pub record Digit (b : ℕ) : Type 0 where
  pub low : 48 ≤ b
  pub high : b ≤ 57
  pub class : class_of b ≡ b - 48

pub is_digit_lem : (b : ℕ) → is_ascii_digit b ≡ true → Digit b
is_digit_lem b e =
    let p = both_true (leb 48 b) (leb b 57) e in
    let l = leb-true 48 b p.0 in
    let h = leb-true b 57 p.1 in
    let q : 48 + (b - 48) ≡ b = omega arith in
    record { low = l; high = h; class = rw q at (digit_class (decimal_digit (b - 48) (omega arith))) }

no_digit : (b : ℕ) → is_ascii_digit b ≡ false → ltb (class_of b) 10 ≡ false
no_digit b e =
    cases (ltb (class_of b) 10) (λ t.
    let p = class_decimal b (ltb-true (class_of b) 10 t) in
    let h = ltb-true (class_of b) 10 t in
    let q : leb 48 b && leb b 57 ≡ true = rw (le-leb 48 b (omega arith), le-leb b 57 (omega arith)) in
    absurd (true≢false (sym q ∙ e)))
    (λ t. t)

-- Digit by digit -------------------------------------------------------------------------------------------------------

-- the digits of s before i are read, and v is their number
pub record Read (s : List ℕ) (i v : ℕ) : Type 0 where
  pub all : digits 10 s ≡ digits 10 (drop i s)
  pub value : number 10 0 s ≡ number 10 v (drop i s)
  pub small : v < 10 ^ i

module _ (s : List ℕ) (i v : ℕ) (r : Read s i v) where
  module _ (h : i < length s) where
    -- a digit more
    pub read_more : is_ascii_digit (get_or s i 0) ≡ true → Read s (i + 1) (v * 10 + (get_or s i 0 - 48))
    unfolding digits number
    read_more e =
        let d = is_digit_lem (get_or s i 0) e in
        record {
          all = r.all ∙ rw (drop_next s i 0 h, d.class, lt-ltb (get_or s i 0 - 48) 10 (omega arith));
          value = r.value ∙ ap (number 10 v) (drop_next s i 0 h) ∙ ap (λ (k : ℕ). number 10 (v * 10 + k) (drop (i + 1) s)) d.class;
          small = rw (add-one, pow-suc) (digits_lt r.small (omega arith));
        }

    -- a byte that is no digit
    pub read_other : is_ascii_digit (get_or s i 0) ≡ false → digits 10 s ≡ false
    unfolding digits
    read_other e = r.all ∙ rw (drop_next s i 0 h, no_digit (get_or s i 0) e)

    -- a third digit at most is to come
    pub read_small : length s ≤ 3 → v < 100
    read_small k = lt_of_lt_of_le r.small (pow-le-pow_right {n = 10} (lit< tt) {i = i} {j = 2} (omega arith))

  -- all is read
  pub read_end : length s ≤ i → NumberRead s (Some v)
  unfolding digits number
  read_end h = let e = drop_of_length-le s h in (r.all ∙ rw e, r.value ∙ rw e)

-- A leading zero -------------------------------------------------------------------------------------------------------

-- the only byte of class 0 is '0'
zero_class : (b : ℕ) → class_of b ≡ 0 → b ≡ 48
zero_class b z = omega (arith, class_decimal b (omega arith))

-- by the test for '0' in front and for what is behind it
module _ (s : List ℕ) (n j : ℕ) (h : length s ≡ n + 1) where
  pub zero_first : (eqb (get_or s 0 0) 48 && ltb j n) ≡ true → label_of s ≡ none
  unfolding no_leading_zero class_of
  zero_first e = let p = both_true (eqb (get_or s 0 0) 48) (ltb j n) e in go s h (eqb-true _ _ p.0) (ltb-true j n p.1)
    where
      go : (s : List ℕ) → length s ≡ n + 1 → get_or s 0 0 ≡ 48 → j < n → label_of s ≡ none
      go [] h e k = absurd (omega arith)
      go (b ∷ []) h e k = absurd (omega arith)
      go (b ∷ c ∷ s) h e k = label_zero (b ∷ c ∷ s) (rw e)

  pub zero_not_first : (eqb (get_or s 0 0) 48 && ltb j n) ≡ false → j ≤ 0 → no_leading_zero s ≡ true
  unfolding no_leading_zero
  zero_not_first e k = go s h e
    where
      go : (s : List ℕ) → length s ≡ n + 1 → (eqb (get_or s 0 0) 48 && ltb j n) ≡ false → no_leading_zero s ≡ true
      go [] h e = refl
      go (b ∷ []) h e = refl
      go (b ∷ c ∷ s) h e = rw (ne_eqb (class_of b) 0 (λ z. true≢false (sym (rw (zero_class b z, lt-ltb j n (omega arith))) ∙ e)))
