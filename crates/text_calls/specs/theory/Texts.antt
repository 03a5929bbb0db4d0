-- The text that is written for eight groups spells them.
use Rattle.std.specs.Prelude.{◌≡◌, Bool, true, false, List, [], ◌∷◌, ◌++◌, map, ℕ, ◌+◌, ◌-◌, ◌*◌, ◌/◌, ◌%◌, ◌≤◌, ◌<◌, length, take, drop, replicate, ltb, eqb}
use Rattle.std.proofs.Common.{◌∙◌, append_assoc, append-nil, arith, length-take, length-drop, take-append-drop, drop-drop, ltb-true, ltb-false, eqb-true}
use Rattle.laws.specs.Cases.{cases}
use Rattle.text_read.specs.Grammar.{HexDigit, decimal_digit, lower_case, Group, hex1, hex2, hex3, hex4, Groups, one, more, Side, empty, full, Spells, plain, gap}
use Rattle.text_read.specs.theory.Joined.{Small}
use Rattle.text_write.specs.Writing.{hex_digit, trimmed, group_text, trailing, part_text, zeros, longest, text_of}
use Rattle.text_write.specs.theory.Runs.{zeros_le, zeros_take, longest_is}
use Rattle.text_calls.specs.theory.Bounds.{small_take, small_drop}

-- a digit's byte is a hexadecimal digit of its value
digit_written : (n : ℕ) → n < 16 → HexDigit (hex_digit n) n
unfolding hex_digit
digit_written n h =
    cases (ltb n 10)
    (λ e. rw e (decimal_digit n (ltb-true n 10 e)))
    (λ e.
    let k : 10 ≤ n = ltb-false n 10 e in
    let p : 97 + (n - 10) ≡ 87 + n = omega arith in
    let q : 10 + (n - 10) ≡ n = omega arith in
    rw e (rw (p, q) at (lower_case (n - 10) (omega arith))))

-- four digits, from the first that is not 0
digits_written : (a b c d : ℕ) → a < 16 → b < 16 → c < 16 → d < 16
    → Group (map hex_digit (trimmed (a ∷ b ∷ c ∷ d ∷ []))) (((a * 16 + b) * 16 + c) * 16 + d)
unfolding trimmed
digits_written a b c d h k m n =
    let w = digit_written a h in
    let x = digit_written b k in
    let y = digit_written c m in
    let z = digit_written d n in
    cases (eqb a 0)
    (λ e. let p = eqb-true a 0 e in rw e (cases (eqb b 0)
    (λ e. let q = eqb-true b 0 e in rw e (cases (eqb c 0)
    (λ e. let r = eqb-true c 0 e in let v : ((a * 16 + b) * 16 + c) * 16 + d ≡ d = omega arith in rw (e, v) (hex1 z))
    (λ e. let v : ((a * 16 + b) * 16 + c) * 16 + d ≡ c * 16 + d = omega arith in rw (e, v) (hex2 y z))))
    (λ e. let v : ((a * 16 + b) * 16 + c) * 16 + d ≡ (b * 16 + c) * 16 + d = omega arith in rw (e, v) (hex3 x y z))))
    (λ e. rw e (hex4 w x y z))

-- a group's text is a group
pub group_written : (g : ℕ) → g < 65536 → Group (group_text g) g
unfolding group_text
group_written g h =
    let v : ((g / 4096 * 16 + g / 256 % 16) * 16 + g / 16 % 16) * 16 + g % 16 ≡ g = omega arith in
    rw v at (digits_written (g / 4096) (g / 256 % 16) (g / 16 % 16) (g % 16) (omega arith) (omega arith) (omega arith) (omega arith))

-- and the text of groups is groups
groups_written : (end : Bool) (g : ℕ) (l : List ℕ) → Small (g ∷ l) → Groups end (part_text (g ∷ l)) (g ∷ l)
unfolding part_text trailing
groups_written end g [] h = rw (append-nil (group_text g)) (one (group_written g h.0))
groups_written end g (f ∷ l) h = more (group_written g h.0) (groups_written end f l h.1)

side_written : (end : Bool) (l : List ℕ) → Small l → Side end (part_text l) l
side_written end [] h = unfold part_text in empty
side_written end (g ∷ l) h = full (groups_written end g l h)

-- a list is made again of the groups before a run of zeros, the run, and those behind it
pub run_between : (l : List ℕ) (s n : ℕ) → zeros (drop s l) ≡ n → take s l ++ replicate n 0 ++ drop (s + n) l ≡ l
run_between l s n e =
    let r : take n (drop s l) ≡ replicate n 0 = rw e at (zeros_take (drop s l)) in
    append_assoc (take s l) (replicate n 0) (drop (s + n) l)
    ∙ rw (← r, ← drop-drop n s l, take-append-drop n (drop s l)) (take-append-drop s l)

-- the text of eight groups spells them
pub text_spells : (l : List ℕ) → Small l → length l ≡ 8 → Spells (text_of l) l
unfolding text_of
text_spells l h e =
    let s : ℕ = (longest l).0 in
    let n : ℕ = (longest l).1 in
    let r : zeros (drop s l) ≡ n = (longest_is l).run in
    cases (ltb n 2)
    (λ t. rw t (plain (all_written l h e) e))
    (λ t.
    let two : 2 ≤ n = ltb-false n 2 t in
    let room : 8 - (length (take s l) + length (drop (s + n) l)) ≡ n =
    omega (arith, zeros_le (drop s l), length-drop s l, length-take s l, length-drop (s + n) l) in
    let again : take s l ++ replicate (8 - (length (take s l) + length (drop (s + n) l))) 0 ++ drop (s + n) l ≡ l = rw room (run_between l s n r) in
    rw t
    (rw again
    at (gap (side_written false (take s l) (small_take s l h)) (side_written true (drop (s + n) l) (small_drop (s + n) l h)) (omega arith))))
  where
    all_written : (l : List ℕ) → Small l → length l ≡ 8 → Groups true (part_text l) l
    all_written [] h e = absurd (omega arith)
    all_written (g ∷ l) h e = groups_written true g l h
