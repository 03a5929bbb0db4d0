-- No text of an address is longer than 39 bytes: eight groups of four and seven colons, or "::" and six groups with a colon each. A mapped one has at
-- most 22: "::ffff:", four decimals of three digits and three dots.
use Rattle.std.specs.Prelude.{◌≡◌, refl, List, [], ◌∷◌, ◌++◌, ℕ, ◌+◌, ◌*◌, ◌-◌, ◌≤◌, length, take, drop}
use Rattle.std.proofs.Common.{⊎_elim, arith, length-append, length-take, length-drop}
use Rattle.laws.specs.Cases.{cases}
use Rattle.text_write.specs.Writing.{group_text, trailing, part_text, longest, four_groups, text_of, is_mapped, written}
use Rattle.text_write.specs.theory.Digits.{text_length}
use Rattle.text_write.specs.theory.Mapped.{written_mapped, written_plain, mapped_length}
use Rattle.text_write.specs.theory.LongestRun.{longest_run, gap_stands_for_two}

-- a group with the colon before it has at most five bytes
trailing_length : (l : List ℕ) → length (trailing l) ≤ 5 * length l
unfolding trailing
trailing_length [] = omega arith
trailing_length (g ∷ l) = omega (arith, length-append (58 ∷ group_text g) (trailing l), text_length g, trailing_length l)

pub part_length : (l : List ℕ) → length (part_text l) ≤ 5 * length l - 1
unfolding part_text
part_length [] = omega arith
part_length (g ∷ l) = omega (arith, length-append (group_text g) (trailing l), text_length g, trailing_length l)

pub text_length_of : (l : List ℕ) → length l ≡ 8 → length (text_of l) ≤ 39
text_length_of l e =
    ⊎_elim (λ p. rw p (omega (arith, part_length l)))
    (λ q.
    let s = (longest l).0 in
    let n = (longest l).1 in
    let w = (longest_run l).within in
    let k = q.0 in
    let a = part_length (take s l) in
    let b = part_length (drop (s + n) l) in
    let c = length-append (part_text (take s l)) (58 ∷ 58 ∷ part_text (drop (s + n) l)) in
    let d = length-take s l in
    let f = length-drop (s + n) l in
    rw q.1 (omega arith))
    (gap_stands_for_two l)

pub written_length : (high low : ℕ) → length (written high low) ≤ 39
written_length high low =
    cases (is_mapped high low) (λ e. rw (written_mapped high low e) (omega (arith, mapped_length low)))
    (λ e. rw (written_plain high low e) (text_length_of (four_groups high ++ four_groups low) (unfold four_groups in refl)))
