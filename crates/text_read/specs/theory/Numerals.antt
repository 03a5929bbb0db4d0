-- The two kinds of number in a text, as the grammar has them and as they are read.
use Rattle.std.specs.Prelude.{◌≡◌, true, false, ◌&&◌, not, List, [], ◌∷◌, ◌++◌, ℕ, ◌+◌, ◌*◌, ◌≤◌, ◌<◌, length, leb, ltb, eqb}
use Rattle.std.proofs.Math.Bool.{and-false}
use Rattle.std.proofs.Math.Option.{some}
use Rattle.std.proofs.Common.{zero-add, zero-mul, arith, lt-ltb, le-ltb, le-leb, leb-true, ltb-true, ne_eqb}
use Rattle.std.proofs.lemmas.Bool.{eqb-false, not-true}
use Rattle.laws.specs.Cases.{both_true}
use Rattle.laws.specs.Options.{when_some}
use Rattle.text_read.specs.Class.{class_of}
use Rattle.text_read.specs.Numerals.{digits, number, group, no_leading_zero, decimal}
use Rattle.text_read.specs.Grammar.{HexDigit, decimal_digit, Group, hex1, hex2, hex3, hex4, Decimal, dec1, dec2, dec3}
use Rattle.text_read.specs.theory.Bytes.{Separator, separator_class, separator_above, digit_class, digit_below, class_digit, class_decimal}
use Rattle.text_read.specs.theory.Splits.{Without}

-- the first digit, and the others
pub digits_first : (b x : ℕ) (s : List ℕ) → digits b (x ∷ s) ≡ true → (class_of x < b) × (digits b s ≡ true)
unfolding digits
digits_first b x s e =
    let p = both_true (ltb (class_of x) b) (digits b s) e in
    (ltb-true (class_of x) b p.0, p.1)

-- there is no separator among digits
digits_without : {c k : ℕ} → Separator c k → (b : ℕ) → b ≤ 16 → (s : List ℕ) → digits b s ≡ true → Without k s
digits_without p b h [] e = tt
digits_without {k = k} p b h (x ∷ s) e =
    let q = digits_first b x s e in
    (ne_eqb (class_of x) k (λ z. omega (arith, q.0, separator_above p)), digits_without p b h s q.1)

-- and no digit is a separator
pub digits_none : {c k : ℕ} → Separator c k → (s t : List ℕ) → digits 16 (s ++ c ∷ t) ≡ false
unfolding digits
digits_none {c} {k} p [] t = rw (le-ltb (class_of c) 16 (omega (arith, separator_class p, separator_above p)))
digits_none p (x ∷ s) t = rw (digits_none p s t) (and-false (ltb (class_of x) 16))

-- a field that holds a numeral: it is not empty, and has no separator
pub record Numeral (s : List ℕ) : Type 0 where
  pub some_digits : 1 ≤ length s
  pub without : {c k : ℕ} → Separator c k → Without k s

digit_test : {x a : ℕ} → HexDigit x a → ltb a 16 ≡ true
digit_test {a = a} d = lt-ltb a 16 (digit_below d)

-- Groups ---------------------------------------------------------------------------------------------------------------

-- a numeral of one to four hexadecimal digits
record Hexadecimal (s : List ℕ) (g : ℕ) : Type 0 where
  hex : digits 16 s ≡ true
  some_digits : 1 ≤ length s
  four_at_most : length s ≤ 4
  value : number 16 0 s ≡ g

-- what is read as a group is such a numeral
group_means : (s : List ℕ) (g : ℕ) → group s ≡ some g → Hexadecimal s g
unfolding group
group_means s g e =
    let p = when_some (digits 16 s && leb 1 (length s) && leb (length s) 4) (number 16 0 s) g e in
    let q = both_true (digits 16 s && leb 1 (length s)) (leb (length s) 4) p.0 in
    let r = both_true (digits 16 s) (leb 1 (length s)) q.0 in
    record { hex = r.0; some_digits = leb-true 1 (length s) r.1; four_at_most = leb-true (length s) 4 q.1; value = p.1 }

-- what the grammar has for a group is read as one
pub group_read : {s : List ℕ} {g : ℕ} → Group s g → group s ≡ some g
unfolding group digits number
group_read (hex1 a) = simp (digit_class a, digit_test a, zero-mul, zero-add)
group_read (hex2 a b) = simp (digit_class a, digit_test a, digit_class b, digit_test b, zero-mul, zero-add)
group_read (hex3 a b c) = simp (digit_class a, digit_test a, digit_class b, digit_test b, digit_class c, digit_test c, zero-mul, zero-add)
group_read (hex4 a b c d) =
    simp (digit_class a, digit_test a, digit_class b, digit_test b, digit_class c, digit_test c, digit_class d, digit_test d, zero-mul, zero-add)

-- a group is a numeral
pub group_numeral : {s : List ℕ} {g : ℕ} → Group s g → Numeral s
group_numeral {s} {g} r =
    let h = group_means s g (group_read r) in
    record { some_digits = h.some_digits; without = λ p. digits_without p 16 (omega arith) s h.hex }

-- what is read as a group is one in the grammar
pub read_group : (s : List ℕ) (g : ℕ) → group s ≡ some g → Group s g
unfolding number
read_group s g e = go s (group_means s g e)
  where
    go : (s : List ℕ) → Hexadecimal s g → Group s g
    go [] h = absurd (omega arith)
    go (x ∷ []) h =
        let a = digits_first 16 x [] h.hex in
        let v : class_of x ≡ g = omega (arith, h.value) in
        rw v at (hex1 (class_digit x a.0))
    go (x ∷ y ∷ []) h =
        let a = digits_first 16 x (y ∷ []) h.hex in
        let b = digits_first 16 y [] a.1 in
        let v : class_of x * 16 + class_of y ≡ g = omega (arith, h.value) in
        rw v at (hex2 (class_digit x a.0) (class_digit y b.0))
    go (x ∷ y ∷ z ∷ []) h =
        let a = digits_first 16 x (y ∷ z ∷ []) h.hex in
        let b = digits_first 16 y (z ∷ []) a.1 in
        let c = digits_first 16 z [] b.1 in
        let v : (class_of x * 16 + class_of y) * 16 + class_of z ≡ g = omega (arith, h.value) in
        rw v at (hex3 (class_digit x a.0) (class_digit y b.0) (class_digit z c.0))
    go (x ∷ y ∷ z ∷ u ∷ []) h =
        let a = digits_first 16 x (y ∷ z ∷ u ∷ []) h.hex in
        let b = digits_first 16 y (z ∷ u ∷ []) a.1 in
        let c = digits_first 16 z (u ∷ []) b.1 in
        let d = digits_first 16 u [] c.1 in
        let v : ((class_of x * 16 + class_of y) * 16 + class_of z) * 16 + class_of u ≡ g = omega (arith, h.value) in
        rw v at (hex4 (class_digit x a.0) (class_digit y b.0) (class_digit z c.0) (class_digit u d.0))
    go (x ∷ y ∷ z ∷ u ∷ v ∷ s) h = absurd (omega arith)

-- Decimals -------------------------------------------------------------------------------------------------------------

-- a numeral of one to three decimal digits, 255 at most, without a leading zero
record DecimalByte (s : List ℕ) (v : ℕ) : Type 0 where
  ten : digits 10 s ≡ true
  some_digits : 1 ≤ length s
  three_at_most : length s ≤ 3
  trimmed : no_leading_zero s ≡ true
  in_byte : number 10 0 s ≤ 255
  value : number 10 0 s ≡ v

-- what is read as a decimal is such a numeral
decimal_means : (s : List ℕ) (v : ℕ) → decimal s ≡ some v → DecimalByte s v
unfolding decimal
decimal_means s v e =
    let p = when_some (digits 10 s && leb 1 (length s) && leb (length s) 3 && no_leading_zero s && leb (number 10 0 s) 255) (number 10 0 s) v e in
    let q = both_true (digits 10 s && leb 1 (length s) && leb (length s) 3 && no_leading_zero s) (leb (number 10 0 s) 255) p.0 in
    let r = both_true (digits 10 s && leb 1 (length s) && leb (length s) 3) (no_leading_zero s) q.0 in
    let t = both_true (digits 10 s && leb 1 (length s)) (leb (length s) 3) r.0 in
    let u = both_true (digits 10 s) (leb 1 (length s)) t.0 in
    record {
      ten = u.0;
      some_digits = leb-true 1 (length s) u.1;
      three_at_most = leb-true (length s) 3 t.1;
      trimmed = r.1;
      in_byte = leb-true (number 10 0 s) 255 q.1;
      value = p.1;
    }

-- what the grammar has for a decimal is read as one
pub decimal_read : {s : List ℕ} {v : ℕ} → Decimal s v → decimal s ≡ some v
unfolding decimal digits number no_leading_zero
decimal_read (dec1 a h) = simp (digit_class (decimal_digit a h), lt-ltb a 10 h, zero-mul, zero-add, le-leb a 255 (omega arith))
decimal_read (dec2 a b f h k) =
    simp (
      digit_class (decimal_digit a h),
      lt-ltb a 10 h,
      ne_eqb a 0 (λ e. omega arith),
      digit_class (decimal_digit b k),
      lt-ltb b 10 k,
      zero-mul,
      zero-add,
      le-leb (a * 10 + b) 255 (omega arith),
    )
decimal_read (dec3 a b c f h k l m) =
    simp (
      digit_class (decimal_digit a h),
      lt-ltb a 10 h,
      ne_eqb a 0 (λ e. omega arith),
      digit_class (decimal_digit b k),
      lt-ltb b 10 k,
      digit_class (decimal_digit c l),
      lt-ltb c 10 l,
      zero-mul,
      zero-add,
      le-leb ((a * 10 + b) * 10 + c) 255 m,
    )

-- a decimal is a numeral
pub decimal_numeral : {s : List ℕ} {v : ℕ} → Decimal s v → Numeral s
decimal_numeral {s} {v} r =
    let h = decimal_means s v (decimal_read r) in
    record { some_digits = h.some_digits; without = λ p. digits_without p 10 (omega arith) s h.ten }

-- what is read as a decimal is one in the grammar
pub read_decimal : (s : List ℕ) (v : ℕ) → decimal s ≡ some v → Decimal s v
unfolding number no_leading_zero
read_decimal s v e = go s (decimal_means s v e)
  where
    first : (x : ℕ) → not (eqb (class_of x) 0) ≡ true → 1 ≤ class_of x
    first x e = let n = eqb-false (class_of x) 0 (not-true (eqb (class_of x) 0) e) in omega arith

    go : (s : List ℕ) → DecimalByte s v → Decimal s v
    go [] h = absurd (omega arith)
    go (x ∷ []) h =
        let a = digits_first 10 x [] h.ten in
        let n : class_of x ≡ v = omega (arith, h.value) in
        rw (class_decimal x a.0, n) at (dec1 (class_of x) a.0)
    go (x ∷ y ∷ []) h =
        let a = digits_first 10 x (y ∷ []) h.ten in
        let b = digits_first 10 y [] a.1 in
        let n : class_of x * 10 + class_of y ≡ v = omega (arith, h.value) in
        rw (class_decimal x a.0, class_decimal y b.0, n) at (dec2 (class_of x) (class_of y) (first x h.trimmed) a.0 b.0)
    go (x ∷ y ∷ z ∷ []) h =
        let a = digits_first 10 x (y ∷ z ∷ []) h.ten in
        let b = digits_first 10 y (z ∷ []) a.1 in
        let c = digits_first 10 z [] b.1 in
        let n : (class_of x * 10 + class_of y) * 10 + class_of z ≡ v = omega (arith, h.value) in
        rw (class_decimal x a.0, class_decimal y b.0, class_decimal z c.0, n)
        at (dec3 (class_of x) (class_of y) (class_of z) (first x h.trimmed) a.0 b.0 c.0 (omega (arith, h.in_byte)))
    go (x ∷ y ∷ z ∷ u ∷ s) h = absurd (omega arith)
