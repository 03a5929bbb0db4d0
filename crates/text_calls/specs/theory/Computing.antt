-- What examples of texts compute with.
use Rattle.std.specs.Prelude.{List, [], ℕ, Err, Ok}
use Rattle.keys.specs.Key.{key_of}
use Rattle.text_read.specs.Class.{class_of}
use Rattle.text_read.specs.Numerals.{digits, number, group, no_leading_zero, decimal}
use Rattle.text_read.specs.Reading.{on_first, split, push, decimals, two_groups, dotted, or_else, groups, part, behind, begins, tail, cut, eight, filled, groups_of_cut, groups_of_colons, mapped, first_of, groups_of, joined}
use Rattle.text_read.specs.Answers.{keyed, reading_of}
use Rattle.text_write.specs.Decimal.{decimal_from, decimal_text}
use Rattle.text_write.specs.Writing.{hex_digit, trimmed, group_text, trailing, part_text, zeros, longest, text_of, four_groups, is_mapped, dotted_text, mapped_text, written}
use Rattle.text_write.specs.Ascii.{ascii}
use Rattle.std.specs.declared.result.Result.{Result}
use Rattle.settings.specs.declared.refusal.Refusal.{Refusal}
use Rattle.keys.specs.declared.Key.{Key}

-- the text that an address is written as, once it is read; nothing for what is refused
abbrev pub again : Result Key Refusal → List ℕ
again (Ok k) = written k.high k.low
again (Err r) = []

-- `unfolding computing` opens all that reading and writing a text computes with
unfoldable pub computing : Unit {0}
unfolding
    class_of digits number group no_leading_zero decimal on_first split push decimals two_groups dotted or_else groups part behind begins tail cut eight filled
    groups_of_cut groups_of_colons mapped first_of groups_of joined hex_digit trimmed group_text trailing part_text zeros longest text_of four_groups decimal_from
    decimal_text is_mapped dotted_text mapped_text written keyed reading_of key_of ascii
computing = tt
