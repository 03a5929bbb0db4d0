-- A byte's class, by the kind of byte that it is.
use Rattle.std.specs.Prelude.{◌≡◌, refl, true, ℕ, ◌+◌, ◌-◌, ◌≤◌, ◌<◌, leb, eqb}
use Rattle.std.proofs.Common.{arith, le-leb, leb-true, eqb-true}
use Rattle.std.proofs.lemmas.Bool.{lt-leb}
use Rattle.laws.specs.Cases.{cases, both_true}
use Rattle.text_read.specs.Class.{class_of, colon, dot, other, within}
use Rattle.text_read.specs.Grammar.{HexDigit, decimal_digit, upper_case, lower_case}

-- a hexadecimal digit's class is its value
pub digit_class : {x a : ℕ} → HexDigit x a → class_of x ≡ a
unfolding class_of
digit_class (decimal_digit a h) = rw (le-leb 48 (48 + a) (omega arith), le-leb (48 + a) 57 (omega arith)) (omega arith)
digit_class (upper_case a h) =
    rw (le-leb 48 (65 + a) (omega arith), lt-leb (65 + a) 57 (omega arith), le-leb 65 (65 + a) (omega arith), le-leb (65 + a) 70 (omega arith))
    (omega arith)
digit_class (lower_case a h) =
    rw (
      le-leb 48 (97 + a) (omega arith),
      lt-leb (97 + a) 57 (omega arith),
      le-leb 65 (97 + a) (omega arith),
      lt-leb (97 + a) 70 (omega arith),
      le-leb 97 (97 + a) (omega arith),
      le-leb (97 + a) 102 (omega arith),
    )
    (omega arith)

-- and is below 16
pub digit_below : {x a : ℕ} → HexDigit x a → a < 16
digit_below (decimal_digit a h) = omega arith
digit_below (upper_case a h) = omega arith
digit_below (lower_case a h) = omega arith

-- a separator and its class: ":" or "."
pub data Separator : ℕ → ℕ → Type 0 where
  a_colon : Separator 58 colon
  a_dot : Separator 46 dot

-- a byte and its class: a digit, a separator or another
pub data Kind : ℕ → ℕ → Type 0 where
  digit : {x a : ℕ} → HexDigit x a → Kind x a
  separator : {x k : ℕ} → Separator x k → Kind x k
  another : {x : ℕ} → Kind x other

-- b is one of the bytes lo to hi
pub within_true : (lo hi b : ℕ) → within lo hi b ≡ true → (lo ≤ b) × (b ≤ hi)
within_true lo hi b e =
    let p = both_true (leb lo b) (leb b hi) e in
    (leb-true lo b p.0, leb-true b hi p.1)

module _ (x : ℕ) where
  -- the bytes of the three ranges are digits
  is_decimal : within 48 57 x ≡ true → HexDigit x (x - 48)
  is_decimal e =
      let w = within_true 48 57 x e in
      let p : 48 + (x - 48) ≡ x = omega arith in
      rw p at (decimal_digit (x - 48) (omega arith))

  is_upper : within 65 70 x ≡ true → HexDigit x (x - 55)
  is_upper e =
      let w = within_true 65 70 x e in
      let p : 65 + (x - 65) ≡ x = omega arith in
      let q : 10 + (x - 65) ≡ x - 55 = omega arith in
      rw (p, q) at (upper_case (x - 65) (omega arith))

  is_lower : within 97 102 x ≡ true → HexDigit x (x - 87)
  is_lower e =
      let w = within_true 97 102 x e in
      let p : 97 + (x - 97) ≡ x = omega arith in
      let q : 10 + (x - 97) ≡ x - 87 = omega arith in
      rw (p, q) at (lower_case (x - 97) (omega arith))

  -- every byte is of one kind, with its class
  pub kind : Kind x (class_of x)
  unfolding class_of
  kind =
      cases (within 48 57 x) (λ e. rw e (digit (is_decimal e)))
      (λ e. rw e (cases (within 65 70 x) (λ e. rw e (digit (is_upper e)))
      (λ e. rw e (cases (within 97 102 x) (λ e. rw e (digit (is_lower e)))
      (λ e. rw e (cases (eqb x 58) (λ e. rw (eqb-true x 58 e) (separator a_colon))
      (λ e. rw e (cases (eqb x 46) (λ e. rw (eqb-true x 46 e) (separator a_dot))
      (λ e. rw e another)))))))))

-- a separator's class is its own
pub separator_class : {c k : ℕ} → Separator c k → class_of c ≡ k
unfolding class_of
separator_class a_colon = refl
separator_class a_dot = refl

-- and is no digit's
pub separator_above : {c k : ℕ} → Separator c k → 16 ≤ k
separator_above a_colon = omega arith
separator_above a_dot = omega arith

-- a byte whose class is below 16 is a digit of that value
pub class_digit : (x : ℕ) → class_of x < 16 → HexDigit x (class_of x)
class_digit x h = go (kind x) h
  where
    go : {x a : ℕ} → Kind x a → a < 16 → HexDigit x a
    go (digit d) h = d
    go (separator s) h = absurd (omega (arith, separator_above s))
    go another h = absurd (omega arith)

-- a byte whose class is below 10 is a decimal digit of that value
pub class_decimal : (x : ℕ) → class_of x < 10 → 48 + class_of x ≡ x
class_decimal x h = go (class_digit x (omega arith)) h
  where
    go : {x a : ℕ} → HexDigit x a → a < 10 → 48 + a ≡ x
    go (decimal_digit a k) h = refl
    go (upper_case a k) h = absurd (omega arith)
    go (lower_case a k) h = absurd (omega arith)

-- no other byte is of a separator's class
pub class_separator : {c k : ℕ} → Separator c k → (x : ℕ) → class_of x ≡ k → x ≡ c
class_separator s x e = go s (kind x) e
  where
    same : {c k d l : ℕ} → Separator c k → Separator d l → l ≡ k → d ≡ c
    same a_colon a_colon e = refl
    same a_colon a_dot e = absurd (omega arith)
    same a_dot a_colon e = absurd (omega arith)
    same a_dot a_dot e = refl

    go : {c k x a : ℕ} → Separator c k → Kind x a → a ≡ k → x ≡ c
    go s (digit d) e = absurd (omega (arith, digit_below d, separator_above s))
    go s (separator t) e = same s t e
    go s another e = absurd (none s e)
      where
        none : {c k : ℕ} → Separator c k → other ≡ k → ⊥
        none a_colon e = omega arith
        none a_dot e = omega arith
