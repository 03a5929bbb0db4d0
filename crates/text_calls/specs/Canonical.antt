-- RFC 5952, sections 4 and 5, once more, as a relation: which text is the canonical form of which address. It stands on the grammar's relation
-- (text_read's `Grammar`) and shares nothing with text_write's `Writing`, which computes what this says; proofs/Canonical proves that what is written
-- for an address is the one text that this relates to it.
use Rattle.std.specs.Prelude.{◌≡◌, ◌⊎◌, List, [], ◌∷◌, ◌++◌, ℕ, ◌≤◌, ◌<◌, length, replicate}
use Rattle.keys.specs.Key.{key_number}
use Rattle.keys.specs.declared.Key.{Key}
use Rattle.text_read.specs.Grammar.{Group, Dotted, Spells}
use Rattle.text_read.specs.Reading.{joined}

-- a field: the digits s of the group g
pub record Field (s : List ℕ) (g : ℕ) : Type 0 where
  pub group : Group s g
  -- 4.1: "Leading zeros MUST be suppressed." "A single 16-bit 0000 field MUST be represented as 0." So nothing follows a first "0" (48)
  pub no_leading_zero : (x : ℕ) (t : List ℕ) → s ≡ 48 ∷ x ∷ t → ⊥
  -- 4.3: "The characters "a", "b", "c", "d", "e", and "f" in an IPv6 address MUST be represented in lowercase." "A" to "F" are 65 to 70
  pub no_capital : (t : List ℕ) (x : ℕ) (u : List ℕ) → s ≡ t ++ x ∷ u → (x < 65) ⊎ (70 < x)

-- section 5's two notations: hexadecimal fields alone, or mixed, with four decimals in the place of the last two
pub data Notation : Type 0 where
  hexadecimal : Notation
  mixed : Notation

-- fields parted by colons (58), or none
pub data Fields : Notation → List ℕ → List ℕ → Type 0 where
  none : Fields hexadecimal [] []
  last : {s : List ℕ} {g : ℕ} → Field s g → Fields hexadecimal s (g ∷ [])
  decimals : {s l : List ℕ} → Dotted s l → Fields mixed s l
  next : {m : Notation} {s t l : List ℕ} {g h : ℕ} → Field s g → Fields m t (h ∷ l) → Fields m (s ++ 58 ∷ t) (g ∷ h ∷ l)

-- a run of n zero groups, behind the first i
pub data ZeroRun : List ℕ → ℕ → ℕ → Type 0 where
  zero_run : (a b : List ℕ) (n : ℕ) → ZeroRun (a ++ replicate n 0 ++ b) (length a) n

-- of the runs of zero groups, the one of n groups behind the first i is to be shortened
pub record Shortened (l : List ℕ) (i n : ℕ) : Type 0 where
  -- 4.2.2: "The symbol "::" MUST NOT be used to shorten just one 16-bit 0 field."
  pub two : 2 ≤ n
  -- 4.2.1: "The use of the symbol "::" MUST be used to its maximum capability."
  -- 4.2.3: "the longest run of consecutive 16-bit 0 fields MUST be shortened"
  pub longest : (j m : ℕ) → ZeroRun l j m → m ≤ n
  -- 4.2.3: where runs are equally long, "the first sequence of zero bits MUST be shortened"
  pub first : (j m : ℕ) → ZeroRun l j m → j < i → m < n

-- each group is written, where no run has two zero groups; else "::" stands for the run that is to be shortened, and the others are written (the runs
-- of all eight groups count in the mixed notation too; under ::ffff:0:0/96 none reaches into the decimals)
pub data Form : Notation → List ℕ → List ℕ → Type 0 where
  plain : {m : Notation} {s l : List ℕ} → Fields m s l → ((i n : ℕ) → ZeroRun l i n → n < 2) → Form m s l
  gap : {m : Notation} {s t a b : List ℕ} {n : ℕ} → Fields hexadecimal s a → Fields m t b → Shortened (a ++ replicate n 0 ++ b) (length a) n
      → Form m (s ++ 58 ∷ 58 ∷ t) (a ++ replicate n 0 ++ b)

-- the groups of an address under ::ffff:0:0/96
pub data Mapped : List ℕ → Type 0 where
  mapped : (g h : ℕ) → Mapped (replicate 5 0 ++ 65535 ∷ g ∷ h ∷ [])

-- clause 9.5: these have the mixed notation, and all others the hexadecimal
pub data Noted : List ℕ → Notation → Type 0 where
  under : {l : List ℕ} → Mapped l → Noted l mixed
  other : {l : List ℕ} → (Mapped l → ⊥) → Noted l hexadecimal

-- the text s spells the eight groups of the address k, in the form of its notation
pub record Canonical (s : List ℕ) (k : Key) : Type 0 where
  pub groups : List ℕ
  pub spells : Spells s groups
  pub address : joined 0 groups ≡ key_number k
  pub notation : Notation
  pub noted : Noted groups notation
  pub form : Form notation s groups
