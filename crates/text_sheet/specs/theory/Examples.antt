-- Lines and numbers of pages, by computation. A line feed is 10.
use Rattle.std.specs.Prelude.{◌≡◌, refl, List, [], ◌∷◌, ◌++◌, map}
use Prim.Native.String.{String}
use Rattle.keys.specs.Key.{key_of}
use Rattle.text_write.specs.Ascii.{ascii}
use Rattle.text_write.specs.Decimal.{decimal_from, decimal_text}
use Rattle.text_write.specs.Writing.{hex_digit, trimmed, group_text, trailing, part_text, zeros, longest, text_of, four_groups, is_mapped, dotted_text, mapped_text, written}
use Rattle.plain_set.specs.Rebuilt.{Pair, pair}
use Rattle.text_sheet.specs.Row.{left_in, right_in, row, heading, pair_row}
use Rattle.text_sheet.specs.Pages.{page_count}

pub heading_is : heading ≡ ascii "ADDRESS                                      LABEL" ++ 10 ∷ []
unfolding ascii left_in right_in row heading
heading_is = refl

-- records and their rows: a short address, a mapped one, and longer ones up to 39 bytes
abbrev pub printed : List (Pair × String)
printed =
    (pair 0xfe800000000000000000000000000001 1, "fe80::1                                          1")
    ∷ (pair 0xffffc0000201 255, "::ffff:192.0.2.1                               255")
    ∷ (pair 0x20010db8111122223333444455556666 0, "2001:db8:1111:2222:3333:4444:5555:6666           0")
    ∷ (pair 0xffffffffffffffffffffffffffffffff 9, "ffff:ffff:ffff:ffff:ffff:ffff:ffff:ffff          9")
    ∷ []

pub rows_printed : map (λ e. pair_row e.0) printed ≡ map (λ e. ascii e.1 ++ 10 ∷ []) printed
unfolding key_of ascii decimal_from decimal_text hex_digit trimmed group_text trailing part_text zeros longest text_of four_groups is_mapped dotted_text mapped_text written left_in right_in row pair_row
rows_printed = refl

-- how many pages 0, 1, 40, 41, 80 and 81 records have
pub page_counts : map page_count (0 ∷ 1 ∷ 40 ∷ 41 ∷ 80 ∷ 81 ∷ []) ≡ 1 ∷ 1 ∷ 1 ∷ 2 ∷ 2 ∷ 3 ∷ []
unfolding page_count
page_counts = refl
