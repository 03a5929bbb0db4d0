-- Every byte of a legal text is a hexadecimal digit, a colon or a dot: so none is a space.
use Rattle.std.specs.Prelude.{◌≡◌, Bool, false, List, ◌∷◌, ◌++◌, ℕ, ◌+◌, ◌<◌, eqb, Ok}
use Rattle.std.proofs.Math.Path.{refl}
use Rattle.std.proofs.Common.{arith, ne_eqb}
use Rattle.keys.specs.declared.Key.{Key}
use Rattle.text_read.specs.Class.{class_of, other}
use Rattle.text_read.specs.Grammar.{HexDigit, decimal_digit, Group, hex1, hex2, hex3, hex4, Decimal, dec1, dec2, dec3, Dotted, four, Groups, one, two, more, Side, empty, full, Spells, plain, gap, bare}
use Rattle.text_read.specs.Answers.{reading_of}
use Rattle.text_read.specs.theory.Bytes.{Separator, a_colon, a_dot, digit_class, digit_below}
use Rattle.text_read.specs.theory.Splits.{Without, without_append}
use Rattle.text_read.proofs.Grammar.{read_legal}

pub digit_known : {x a : ℕ} → HexDigit x a → eqb (class_of x) other ≡ false
digit_known {x} d = ne_eqb (class_of x) other (λ e. omega (arith, digit_class d, digit_below d))

decimal_known : (a : ℕ) → a < 10 → eqb (class_of (48 + a)) other ≡ false
decimal_known a h = digit_known (decimal_digit a h)

pub separator_known : {c k : ℕ} → Separator c k → eqb (class_of c) other ≡ false
separator_known a_colon = unfold class_of in refl
separator_known a_dot = unfold class_of in refl

group_known : {s : List ℕ} {g : ℕ} → Group s g → Without other s
group_known (hex1 a) = (digit_known a, tt)
group_known (hex2 a b) = (digit_known a, (digit_known b, tt))
group_known (hex3 a b c) = (digit_known a, (digit_known b, (digit_known c, tt)))
group_known (hex4 a b c d) = (digit_known a, (digit_known b, (digit_known c, (digit_known d, tt))))

byte_known : {s : List ℕ} {v : ℕ} → Decimal s v → Without other s
byte_known (dec1 a h) = (decimal_known a h, tt)
byte_known (dec2 a b f h k) = (decimal_known a h, (decimal_known b k, tt))
byte_known (dec3 a b c f h k l m) = (decimal_known a h, (decimal_known b k, (decimal_known c l, tt)))

-- two texts with a separator between
between : {c k : ℕ} → Separator c k → (s t : List ℕ) → Without other s → Without other t → Without other (s ++ c ∷ t)
between {c} p s t a b = without_append other s (c ∷ t) a (separator_known p, b)

dotted_known : {s l : List ℕ} → Dotted s l → Without other s
dotted_known (four {s = s} {t = t} {u = u} {v = v} p q r w) =
    between a_dot (s ++ 46 ∷ t ++ 46 ∷ u) v
    (between a_dot (s ++ 46 ∷ t) u (between a_dot s t (byte_known p) (byte_known q)) (byte_known r))
    (byte_known w)

groups_known : {end : Bool} {s l : List ℕ} → Groups end s l → Without other s
groups_known (one r) = group_known r
groups_known (two r) = dotted_known r
groups_known (more {s = s} {t = t} r rest) = between a_colon s t (group_known r) (groups_known rest)

side_known : {end : Bool} {s l : List ℕ} → Side end s l → Without other s
side_known empty = tt
side_known (full r) = groups_known r

spells_known : {s l : List ℕ} → Spells s l → Without other s
spells_known (plain r e) = groups_known r
spells_known (gap {s = s} {t = t} p q h) = between a_colon s (58 ∷ t) (side_known p) (separator_known a_colon, side_known q)
spells_known (bare r) = dotted_known r

-- a text that is read as a key has no byte but these
pub read_classes : (x : List ℕ) (k : Key) → reading_of x ≡ Ok k → Without other x
read_classes x k e = spells_known (read_legal x k e).spells
