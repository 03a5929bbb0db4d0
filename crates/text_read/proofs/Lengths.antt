-- How long a legal text can be.
use Rattle.std.specs.Prelude.{◌≡◌, Bool, true, false, List, ◌∷◌, ◌++◌, ℕ, ◌+◌, ◌*◌, ◌≤◌, length, Ok}
use Rattle.std.proofs.Common.{arith, length-append}
use Rattle.keys.specs.declared.Key.{Key}
use Rattle.text_read.specs.Grammar.{Group, hex1, hex2, hex3, hex4, Decimal, dec1, dec2, dec3, Dotted, four, Groups, one, two, more, Side, empty, full, Spells, plain, gap, bare}
use Rattle.text_read.specs.Answers.{reading_of}
use Rattle.text_read.proofs.Grammar.{dotted_two, read_legal}

group_length : {s : List ℕ} {g : ℕ} → Group s g → (1 ≤ length s) × (length s ≤ 4)
group_length (hex1 a) = (omega arith, omega arith)
group_length (hex2 a b) = (omega arith, omega arith)
group_length (hex3 a b c) = (omega arith, omega arith)
group_length (hex4 a b c d) = (omega arith, omega arith)

byte_length : {s : List ℕ} {v : ℕ} → Decimal s v → (1 ≤ length s) × (length s ≤ 3)
byte_length (dec1 a h) = (omega arith, omega arith)
byte_length (dec2 a b f h k) = (omega arith, omega arith)
byte_length (dec3 a b c f h k l m) = (omega arith, omega arith)

dotted_length : {s l : List ℕ} → Dotted s l → (7 ≤ length s) × (length s ≤ 15)
dotted_length (four {s = s} {t = t} {u = u} {v = v} p q r w) =
    let n : length (s ++ 46 ∷ t ++ 46 ∷ u ++ 46 ∷ v) ≡ length s + length t + length u + length v + 3 =
    omega (arith, length-append (s ++ 46 ∷ t ++ 46 ∷ u) (46 ∷ v), length-append (s ++ 46 ∷ t) (46 ∷ u), length-append s (46 ∷ t)) in
    (omega (arith, byte_length p, byte_length q, byte_length r, byte_length w), omega (arith, byte_length p, byte_length q, byte_length r, byte_length w))

-- a byte and a colon for each group at least; four bytes and a colon at most, and six more where "d.d.d.d" is the last two
groups_length : {end : Bool} {s l : List ℕ} → Groups end s l → (2 * length l ≤ length s + 1) × (length s ≤ 5 * length l + 5)
groups_length (one r) = (omega (arith, group_length r), omega (arith, group_length r))
groups_length (two {s = s} {l = l} r) = (omega (arith, dotted_length r, dotted_two r), omega (arith, dotted_length r, dotted_two r))
groups_length (more {s = s} {t = t} r rest) =
    let n = length-append s (58 ∷ t) in
    (omega (arith, group_length r, groups_length rest), omega (arith, group_length r, groups_length rest))

-- before "::", where all groups are hexadecimal, and behind it
front_length : {s l : List ℕ} → Groups false s l → length s + 1 ≤ 5 * length l
front_length (one r) = omega (arith, group_length r)
front_length (more {s = s} {t = t} r rest) = omega (arith, length-append s (58 ∷ t), group_length r, front_length rest)

before_length : {s l : List ℕ} → Side false s l → length s ≤ 5 * length l
before_length empty = omega arith
before_length (full r) = omega (arith, front_length r)

behind_length : {s l : List ℕ} → Side true s l → length s ≤ 5 * length l + 5
behind_length empty = omega arith
behind_length (full r) = (groups_length r).1

spells_length : {s l : List ℕ} → Spells s l → (2 ≤ length s) × (length s ≤ 45)
spells_length (plain r e) = (omega (arith, groups_length r), omega (arith, groups_length r))
spells_length (gap {s = s} {t = t} p q h) =
    let n = length-append s (58 ∷ 58 ∷ t) in
    (omega arith, omega (arith, before_length p, behind_length q))
spells_length (bare r) = (omega (arith, dotted_length r), omega (arith, dotted_length r))

-- a text that is read as a key has 2 to 45 bytes: "::" is as short, "1111:2222:3333:4444:5555:6666:111.111.111.111" as long
pub read_length : (x : List ℕ) (k : Key) → reading_of x ≡ Ok k → (2 ≤ length x) × (length x ≤ 45)
read_length x k e = spells_length (read_legal x k e).spells
