-- The eight groups of a legal text are each below 2 ^ 16, and its address is below 2 ^ 128.
use Rattle.std.specs.Prelude.{◌≡◌, Bool, List, [], ◌∷◌, ◌++◌, ℕ, zero, suc, ◌+◌, ◌-◌, ◌^◌, ◌≤◌, ◌<◌, length, take, drop, replicate}
use Rattle.std.proofs.Math.Option.{some}
use Rattle.std.proofs.Common.{arith, length-append, lit<}
use Rattle.std.proofs.lemmas.List.{length-replicate}
use Rattle.text_read.specs.Reading.{groups_of, joined}
use Rattle.text_read.specs.Grammar.{Group, hex1, hex2, hex3, hex4, Decimal, dec1, dec2, dec3, Dotted, four, Groups, one, two, more, Side, empty, full, Spells, plain, gap, bare}
use Rattle.text_read.specs.theory.Bytes.{digit_below}
use Rattle.text_read.proofs.Grammar.{dotted_two, read_spells}
use Rattle.text_read.specs.theory.Joined.{Small, joined_lt}

-- small groups, in lists that are put together and taken apart
pub small_append : (a b : List ℕ) → Small a → Small b → Small (a ++ b)
small_append [] b h k = k
small_append (g ∷ a) b h k = (h.0, small_append a b h.1 k)

pub small_take : (n : ℕ) (l : List ℕ) → Small l → Small (take n l)
small_take zero l h = tt
small_take (suc n) [] h = tt
small_take (suc n) (g ∷ l) h = (h.0, small_take n l h.1)

pub small_drop : (n : ℕ) (l : List ℕ) → Small l → Small (drop n l)
small_drop zero l h = h
small_drop (suc n) [] h = tt
small_drop (suc n) (g ∷ l) h = small_drop n l h.1

small_zeros : (n : ℕ) → Small (replicate n 0)
small_zeros zero = tt
small_zeros (suc n) = (lit< tt, small_zeros n)

-- a group is below 2 ^ 16, and a decimal below 2 ^ 8
group_small : {s : List ℕ} {g : ℕ} → Group s g → g < 65536
group_small (hex1 a) = omega (arith, digit_below a)
group_small (hex2 a b) = omega (arith, digit_below a, digit_below b)
group_small (hex3 a b c) = omega (arith, digit_below a, digit_below b, digit_below c)
group_small (hex4 a b c d) = omega (arith, digit_below a, digit_below b, digit_below c, digit_below d)

pub decimal_small : {s : List ℕ} {v : ℕ} → Decimal s v → v ≤ 255
decimal_small (dec1 a h) = omega arith
decimal_small (dec2 a b f h k) = omega arith
decimal_small (dec3 a b c f h k l m) = m

dotted_small : {s l : List ℕ} → Dotted s l → Small l
dotted_small (four p q r w) = (omega (arith, decimal_small p, decimal_small q), (omega (arith, decimal_small r, decimal_small w), tt))

groups_small : {end : Bool} {s l : List ℕ} → Groups end s l → Small l
groups_small (one r) = (group_small r, tt)
groups_small (two r) = dotted_small r
groups_small (more r rest) = (group_small r, groups_small rest)

side_small : {end : Bool} {s l : List ℕ} → Side end s l → Small l
side_small empty = tt
side_small (full r) = groups_small r

-- what a text spells are eight groups below 2 ^ 16
pub spells_small : {s l : List ℕ} → Spells s l → Small l × (length l ≡ 8)
spells_small (plain r e) = (groups_small r, e)
spells_small (gap {a = a} {b = b} p q h) =
    let n : ℕ = 8 - (length a + length b) in (
      small_append (a ++ replicate n 0) b (small_append a (replicate n 0) (side_small p) (small_zeros n)) (side_small q),
      omega (arith, length-append (a ++ replicate n 0) b, length-append a (replicate n 0), length-replicate {A = ℕ} n 0),
    )
spells_small (bare {l = l} r) =
    (small_append (replicate 5 0) (65535 ∷ l) (small_zeros 5) (lit< tt, dotted_small r), omega (arith, dotted_two r))

-- eight groups make a number below 2 ^ 128
pub eight_below : (l : List ℕ) → Small l → length l ≡ 8 → joined 0 l < 2 ^ 128
eight_below l h e = rw e at (joined_lt l 0 0 h (lit< tt))

-- the address of every legal text is below 2 ^ 128
pub legal_below : (s l : List ℕ) → groups_of s ≡ some l → joined 0 l < 2 ^ 128
legal_below s l e = let p = spells_small (read_spells s l e) in eight_below l p.0 p.1
