-- Words of the contracts of the reader's parts: what each part answers, in terms of `Numerals` and `Reading`.
use Rattle.keys.specs.declared.Key.{Key}
use Rattle.settings.specs.declared.refusal.Refusal.{Refusal}
use Rattle.std.specs.Prelude.{ℕ, ◌+◌, ◌*◌, ◌≤◌, ◌<◌, true, false, cond, List, [], ◌∷◌, length, drop, leb, ltb, eqb, Result, Ok, Err, Option as Found, Some, None}
use Rattle.std.proofs.Math.Option.{Option, none, some}
use Rattle.keys.specs.Key.{key_of}
use Rattle.settings.specs.declared.refusal.Refusal.TheVariants as refusal
use Rattle.text_read.specs.Class.{class_of, colon, dot}
use Rattle.text_read.specs.Gathered.{Gathered, made, filled_with}
use Rattle.text_read.specs.Numerals.{group, decimal}
use Rattle.text_read.specs.Reading.{split, decimals, dotted, groups, part, Cut, whole, parted, cut, joined}
use Rattle.text_read.specs.declared.reader.Numeral.{Numeral}
use Rattle.text_read.specs.declared.reader.Part.{Part}
use Rattle.text_read.specs.declared.reader.Part.TheVariants as answer

-- a choice by the classes b and c of a field's second and third byte: x, y, z for a group of one, two, three digits
unfoldable pub by_length : ℕ → ℕ → ℕ → ℕ → ℕ → ℕ
by_length b c x y z = cond (ltb 15 b) x (cond (ltb 15 c) y z)

-- Numerals --------------------------------------------------------------------------------------------------------------

-- the bytes before the first byte of class k
unfoldable pub until : ℕ → List ℕ → List ℕ
until k [] = []
until k (x ∷ s) = cond (eqb (class_of x) k) [] (x ∷ until k s)

abbrev pub numeral_of : Option ℕ → ℕ → Found Numeral
numeral_of none end = None
numeral_of (some v) end = Some (record { value = v; next = end })

-- the group in the field f that starts at `at`
unfoldable pub group_in : List ℕ → ℕ → Found Numeral
group_in f at = numeral_of (group f) (at + length f)

-- the decimal in the field f that starts at `at`
unfoldable pub decimal_in : List ℕ → ℕ → Found Numeral
decimal_in f at = numeral_of (decimal f) (at + length f)

-- the number that bytes stand for, where v stands before them
unfoldable pub bytes : ℕ → List ℕ → ℕ
bytes v [] = v
bytes v (x ∷ l) = bytes (v * 256 + x) l

-- the number that four decimals stand for, of which n with the number v are read already
unfoldable pub four : ℕ → ℕ → Option (List ℕ) → Option ℕ
four v n none = none
four v n (some l) = cond (eqb (n + length l) 4) (some (bytes v l)) none

-- the number of the dotted text t, of which n decimals with the number v are read already
unfoldable pub dotted_from : ℕ → ℕ → List ℕ → Option ℕ
dotted_from v n t = four v n (decimals (split dot t))

-- Groups ----------------------------------------------------------------------------------------------------------------

-- the groups to the end of the text, of which n with the number v are read already: eight at most
unfoldable pub to_end : ℕ → ℕ → Option (List ℕ) → Found Part
to_end v n none = None
to_end v n (some l) = cond (leb (n + length l) 8) (Some (answer.Whole (made (joined v l) (n + length l)))) None

-- the same for groups before "::", which ends before `next`
unfoldable pub to_gap : ℕ → ℕ → ℕ → Option (List ℕ) → Found Part
to_gap v n next none = None
to_gap v n next (some l) = cond (leb (n + length l) 8) (Some (answer.Gap (made (joined v l) (n + length l)) next)) None

unfoldable pub part_of_cut : ℕ → ℕ → List ℕ → ℕ → Cut → Found Part
part_of_cut v n t at whole = to_end v n (groups true (split colon t))
part_of_cut v n t at (parted l r) = to_gap v n (at + length l + 2) (groups false (split colon l))

-- the part of an address in the text t that starts at `at`, of which n groups with the number v are read already
unfoldable pub part_from : ℕ → ℕ → List ℕ → ℕ → Found Part
part_from v n t at = part_of_cut v n t at (cut t)

-- the two groups of a dotted text behind those of ::ffff:0:0/96, six with the number ffff; or else this part
unfoldable pub mapped_or : Option (List ℕ) → Found Part → Found Part
mapped_or none p = p
mapped_or (some l) p = to_end 65535 6 (some l)

-- the same, but a dotted text at 0, which is the whole text, is the mapped address that ends in it
unfoldable pub part_at : ℕ → ℕ → List ℕ → ℕ → Found Part
part_at v n t at = cond (eqb at 0) (mapped_or (dotted t) (part_from v n t at)) (part_from v n t at)

unfoldable pub filled_by : ℕ → ℕ → Option (List ℕ) → Result Key Refusal
filled_by v n none = Err refusal.Text
filled_by v n (some l) = filled_with v n (joined 0 l) (length l)

-- the address whose n groups before "::" have the number v, where t follows "::"
unfoldable pub after_gap : ℕ → ℕ → List ℕ → Result Key Refusal
after_gap v n t = filled_by v n (part true t)

-- the groups of a part, eight at most
unfoldable pub gathered : Option (List ℕ) → Found Gathered
gathered none = None
gathered (some l) = cond (leb (length l) 8) (Some (made (joined 0 l) (length l))) None

-- the address of the text s, where its first part is this
abbrev pub head_answer : List ℕ → Found Part → Result Key Refusal
head_answer s None = Err refusal.Text
head_answer s (Some (answer.Whole g)) = cond (eqb g.count 8) (Ok (key_of g.number)) (Err refusal.Text)
head_answer s (Some (answer.Gap g next)) = after_gap g.number g.count (drop next s)

-- "::" ends within the text, and behind its start
abbrev pub Fine : ℕ → Found Part → Type 0
Fine last None = Unit {0}
Fine last (Some (answer.Whole g)) = Unit {0}
Fine last (Some (answer.Gap g next)) = (0 < next) × (next ≤ last)
