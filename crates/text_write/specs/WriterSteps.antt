-- Words that only the contracts of the functions behind `write` use.
use Rattle.std.specs.Prelude.{◌≡◌, ℕ, ◌+◌, ◌-◌, ◌*◌, ◌/◌, ◌%◌, ◌^◌, ◌≤◌, cond, List, [], ◌∷◌, ◌++◌, length, take, drop, leb}
use Rattle.keys.specs.declared.Key.{Key}
use Rattle.text_write.specs.Decimal.{decimal_text}
use Rattle.text_write.specs.declared.mapped.Ends.{Ends}
use Rattle.text_write.specs.declared.writer.Run.{Run}
use Rattle.text_write.specs.Writing.{group_text, four_groups, zeros, longest}

-- the eight groups of a key
unfoldable pub key_groups : Key → List ℕ
key_groups k = four_groups k.high ++ four_groups k.low

-- four bytes as one number, the first in the lowest place
abbrev pub packed : ℕ → ℕ → ℕ → ℕ → ℕ
packed a b c d = a + b * 256 + c * 65536 + d * 16777216

-- and back
abbrev pub unpacked : ℕ → List ℕ
unpacked x = x % 256 ∷ x / 256 % 256 ∷ x / 65536 % 256 ∷ x / 16777216 % 256 ∷ []

-- the text of groups with a colon (58) after each
unfoldable pub closed_text : List ℕ → List ℕ
closed_text [] = []
closed_text (g ∷ l) = group_text g ++ 58 ∷ closed_text l

-- a bit for each place of the list, the first in the lowest: n zero groups stand from there on
unfoldable pub run_marks : ℕ → List ℕ → ℕ
run_marks n [] = 0
run_marks n (g ∷ l) = run_marks n l * 2 + cond (leb n (zeros (g ∷ l))) 1 0

-- the run of the eight groups that "::" stands for: the longest, of two groups or more
pub record Gap (l : List ℕ) (run : Run) : Type 0 where
  pub two : 2 ≤ run.count
  pub start : run.start ≡ (longest l).0
  pub count : run.count ≡ (longest l).1
  pub within : run.start + run.count ≤ 8

-- the text stands before place r, and from place `most` on nothing has changed; the bytes between are free
pub record Puts (text : List ℕ) (most : ℕ) (before after : List ℕ) (r : ℕ) : Type 0 where
  pub within : r ≤ most
  pub is : take r after ≡ text
  pub kept : drop most after ≡ drop most before

-- the text ends before `end`, from where on nothing has changed; the bytes before it are free
pub record PutsBack (text : List ℕ) (end : ℕ) (before after : List ℕ) : Type 0 where
  pub within : length text ≤ end
  pub is : drop (end - length text) after ≡ text ++ drop end before

-- where the decimals of a mapped text end: the first begins at 7, and each other behind a dot
pub record EndsOf (low : ℕ) (e : Ends) : Type 0 where
  pub first : e.first ≡ 7 + length (decimal_text (low % 2 ^ 32 / 2 ^ 24))
  pub second : e.second ≡ e.first + 1 + length (decimal_text (low % 2 ^ 32 / 2 ^ 16 % 256))
  pub third : e.third ≡ e.second + 1 + length (decimal_text (low % 2 ^ 32 / 2 ^ 8 % 256))
  pub last : e.last ≡ e.third + 1 + length (decimal_text (low % 2 ^ 32 % 256))
