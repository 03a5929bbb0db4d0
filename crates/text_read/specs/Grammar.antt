-- RFC 4291, section 2.2, and four decimals alone, once more, as a relation: which texts spell which eight groups. It shares nothing with `Reading`,
-- which computes what this says; proofs/Grammar proves that the two agree.
use Rattle.std.specs.Prelude.{◌≡◌, Bool, true, false, List, [], ◌∷◌, ◌++◌, ℕ, ◌+◌, ◌-◌, ◌*◌, ◌≤◌, ◌<◌, length, replicate}

-- a hexadecimal digit and its value: "0" to "9" are the bytes 48 to 57, "A" to "F" 65 to 70, "a" to "f" 97 to 102
pub data HexDigit : ℕ → ℕ → Type 0 where
  decimal_digit : (a : ℕ) → a < 10 → HexDigit (48 + a) a
  upper_case : (a : ℕ) → a < 6 → HexDigit (65 + a) (10 + a)
  lower_case : (a : ℕ) → a < 6 → HexDigit (97 + a) (10 + a)

-- "one to four hexadecimal digits"
pub data Group : List ℕ → ℕ → Type 0 where
  hex1 : {x a : ℕ} → HexDigit x a → Group (x ∷ []) a
  hex2 : {x y a b : ℕ} → HexDigit x a → HexDigit y b → Group (x ∷ y ∷ []) (a * 16 + b)
  hex3 : {x y z a b c : ℕ} → HexDigit x a → HexDigit y b → HexDigit z c → Group (x ∷ y ∷ z ∷ []) ((a * 16 + b) * 16 + c)
  hex4 : {x y z u a b c d : ℕ} → HexDigit x a → HexDigit y b → HexDigit z c → HexDigit u d
      → Group (x ∷ y ∷ z ∷ u ∷ []) (((a * 16 + b) * 16 + c) * 16 + d)

-- a decimal 0 to 255 without a leading zero
pub data Decimal : List ℕ → ℕ → Type 0 where
  dec1 : (a : ℕ) → a < 10 → Decimal ((48 + a) ∷ []) a
  dec2 : (a b : ℕ) → 1 ≤ a → a < 10 → b < 10 → Decimal ((48 + a) ∷ (48 + b) ∷ []) (a * 10 + b)
  dec3 : (a b c : ℕ) → 1 ≤ a → a < 10 → b < 10 → c < 10 → (a * 10 + b) * 10 + c ≤ 255
      → Decimal ((48 + a) ∷ (48 + b) ∷ (48 + c) ∷ []) ((a * 10 + b) * 10 + c)

-- "d.d.d.d": four decimals with dots (46) are two groups
pub data Dotted : List ℕ → List ℕ → Type 0 where
  four : {s t u v : List ℕ} {a b c d : ℕ} → Decimal s a → Decimal t b → Decimal u c → Decimal v d
      → Dotted (s ++ 46 ∷ t ++ 46 ∷ u ++ 46 ∷ v) ((a * 256 + b) ∷ (c * 256 + d) ∷ [])

-- "x:x: .. :x", colons (58) between; where the address ends, "d.d.d.d" may stand for the last two groups
pub data Groups : Bool → List ℕ → List ℕ → Type 0 where
  one : {end : Bool} {s : List ℕ} {g : ℕ} → Group s g → Groups end s (g ∷ [])
  two : {s l : List ℕ} → Dotted s l → Groups true s l
  more : {end : Bool} {s t l : List ℕ} {g : ℕ} → Group s g → Groups end t l → Groups end (s ++ 58 ∷ t) (g ∷ l)

-- what stands on one side of "::": groups, or nothing
pub data Side : Bool → List ℕ → List ℕ → Type 0 where
  empty : {end : Bool} → Side end [] []
  full : {end : Bool} {s l : List ℕ} → Groups end s l → Side end s l

-- eight groups; or fewer, with "::" for one or more zero groups, once; or "d.d.d.d" alone, the last two groups of an address under ::ffff:0:0/96
-- (clauses 9.2 and 9.3)
pub data Spells : List ℕ → List ℕ → Type 0 where
  plain : {s l : List ℕ} → Groups true s l → length l ≡ 8 → Spells s l
  gap : {s t a b : List ℕ} → Side false s a → Side true t b → length a + length b < 8
      → Spells (s ++ 58 ∷ 58 ∷ t) (a ++ replicate (8 - (length a + length b)) 0 ++ b)
  bare : {s l : List ℕ} → Dotted s l → Spells s (replicate 5 0 ++ 65535 ∷ l)
