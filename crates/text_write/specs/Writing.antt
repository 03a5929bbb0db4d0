-- The one text in which an address is written (clause 9.5): RFC 5952, sections 4.1 to 4.3, in hexadecimal groups; under ::ffff:0:0/96 the last two
-- as four decimals, which section 5 recommends.
use Rattle.std.specs.Prelude.{ℕ, ◌+◌, ◌*◌, ◌/◌, ◌%◌, ◌^◌, Bool, cond, List, [], ◌∷◌, ◌++◌, map, take, drop, leb, ltb, eqb}
use Rattle.text_write.specs.Ascii.{ascii}
use Rattle.text_write.specs.Decimal.{decimal_text}

-- 4.3: "The characters "a", "b", "c", "d", "e", and "f" in an IPv6 address MUST be represented in lowercase." '0' is 48 and 'a' 97
unfoldable pub hex_digit : ℕ → ℕ
hex_digit n = cond (ltb n 10) (48 + n) (87 + n)

-- 4.1: "Leading zeros MUST be suppressed." "A single 16-bit 0000 field MUST be represented as 0."
unfoldable pub trimmed : List ℕ → List ℕ
trimmed [] = []
trimmed (d ∷ []) = d ∷ []
trimmed (d ∷ e ∷ l) = cond (eqb d 0) (trimmed (e ∷ l)) (d ∷ e ∷ l)

unfoldable pub group_text : ℕ → List ℕ
group_text g = map hex_digit (trimmed (g / 4096 ∷ g / 256 % 16 ∷ g / 16 % 16 ∷ g % 16 ∷ []))

-- the text of groups that follow others: a colon (58) before each
unfoldable pub trailing : List ℕ → List ℕ
trailing [] = []
trailing (g ∷ l) = 58 ∷ group_text g ++ trailing l

-- the text of groups, parted by colons
unfoldable pub part_text : List ℕ → List ℕ
part_text [] = []
part_text (g ∷ l) = group_text g ++ trailing l

-- how many zero groups the list begins with
unfoldable pub zeros : List ℕ → ℕ
zeros [] = 0
zeros (g ∷ l) = cond (eqb g 0) (zeros l + 1) 0

-- 4.2.3: the longest run of zero groups, "the first sequence of zero bits" where runs are equal: where it begins, and how many groups it has
unfoldable pub longest : List ℕ → ℕ × ℕ
longest [] = (0, 0)
longest (g ∷ l) = cond (leb (longest l).1 (zeros (g ∷ l))) (0, zeros (g ∷ l)) ((longest l).0 + 1, (longest l).1)

-- 4.2.2: "The symbol "::" MUST NOT be used to shorten just one 16-bit 0 field." 4.2.1: it stands for the whole run
unfoldable pub text_of : List ℕ → List ℕ
text_of l =
    cond (ltb (longest l).1 2) (part_text l)
    (part_text (take (longest l).0 l) ++ 58 ∷ 58 ∷ part_text (drop ((longest l).0 + (longest l).1) l))

-- the four groups of half an address
unfoldable pub four_groups : ℕ → List ℕ
four_groups x = x / 2 ^ 48 ∷ x / 2 ^ 32 % 65536 ∷ x / 65536 % 65536 ∷ x % 65536 ∷ []

-- the address high * 2 ^ 64 + low is under ::ffff:0:0/96: its first 96 bits are ffff
unfoldable pub is_mapped : ℕ → ℕ → Bool
is_mapped high low = eqb ((high * 2 ^ 64 + low) / 2 ^ 32) 65535

-- "d.d.d.d": the four bytes of a number in decimal, with dots (46) between
unfoldable pub dotted_text : ℕ → List ℕ
dotted_text x =
    decimal_text (x / 2 ^ 24) ++ 46 ∷ decimal_text (x / 2 ^ 16 % 256) ++ 46 ∷ decimal_text (x / 2 ^ 8 % 256) ++ 46 ∷ decimal_text (x % 256)

-- 5: the dotted tail is the last 32 bits
unfoldable pub mapped_text : ℕ → List ℕ
mapped_text low = ascii "::ffff:" ++ dotted_text (low % 2 ^ 32)

-- the text of the address high * 2 ^ 64 + low
unfoldable pub written : ℕ → ℕ → List ℕ
written high low = cond (is_mapped high low) (mapped_text low) (text_of (four_groups high ++ four_groups low))
