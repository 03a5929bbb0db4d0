-- Mapped addresses: what is written for one spells its groups, and a bare dotted text is read as one.
use Rattle.std.specs.Prelude.{◌≡◌, true, List, [], ◌∷◌, ◌++◌, ℕ, ◌+◌, ◌*◌, ◌/◌, ◌%◌, ◌^◌, ◌≤◌, ◌<◌}
use Rattle.std.proofs.Common.{sym, arith, lit<}
use Rattle.text_read.specs.Reading.{joined}
use Rattle.text_read.specs.Answers.{reading_of}
use Rattle.text_read.specs.Grammar.{lower_case, Group, hex4, Decimal, dec1, dec2, dec3, Dotted, four, two, more, empty, full, Spells, gap, bare}
use Rattle.text_read.proofs.Grammar.{spells_read}
use Rattle.text_write.specs.Ascii.{ascii}
use Rattle.text_write.specs.Decimal.{decimal_text}
use Rattle.text_write.specs.Writing.{four_groups, is_mapped, dotted_text, mapped_text}
use Rattle.text_write.specs.theory.Decimal.{by_count, decimal_one, decimal_two, decimal_three}
use Rattle.text_write.specs.theory.Mapped.{mapped_halves}
use Rattle.text_calls.specs.theory.Bounds.{decimal_small}

-- A decimal and four of them --------------------------------------------------------------------------------------------

-- a decimal's text is a decimal
decimal_written : (n : ℕ) → n < 256 → Decimal (decimal_text n) n
decimal_written n h =
    by_count n (λ k. rw (decimal_one n k) (dec1 n k))
    (λ k m.
    let v : n / 10 * 10 + n % 10 ≡ n = omega arith in
    rw (decimal_two n k m) (rw v at (dec2 (n / 10) (n % 10) (omega arith) (omega arith) (omega arith))))
    (λ m.
    let v : (n / 100 * 10 + n / 10 % 10) * 10 + n % 10 ≡ n = omega arith in
    rw (decimal_three n m (omega arith))
    (rw v at (dec3 (n / 100) (n / 10 % 10) (n % 10) (omega arith) (omega arith) (omega arith) (omega arith) (omega (arith, v)))))

-- and there is no other
decimal_text_lem : {s : List ℕ} {n : ℕ} → Decimal s n → s ≡ decimal_text n
decimal_text_lem (dec1 a h) = sym (decimal_one a h)
decimal_text_lem (dec2 a b f h k) =
    let n : ℕ = a * 10 + b in
    let i : n / 10 ≡ a = omega arith in
    let j : n % 10 ≡ b = omega arith in
    rw (decimal_two n (omega arith) (omega arith), i, j)
decimal_text_lem (dec3 a b c f h k l m) =
    let n : ℕ = (a * 10 + b) * 10 + c in
    let i : n / 100 ≡ a = omega arith in
    let j : n / 10 % 10 ≡ b = omega arith in
    let o : n % 10 ≡ c = omega arith in
    rw (decimal_three n (omega arith) (omega arith), i, j, o)

-- the dotted text of a number is its two groups
pub dotted_written : (x : ℕ) → x < 2 ^ 32 → Dotted (dotted_text x) (x / 65536 ∷ x % 65536 ∷ [])
unfolding dotted_text
dotted_written x h =
    let p : x / 2 ^ 24 * 256 + x / 2 ^ 16 % 256 ≡ x / 65536 = omega arith in
    let q : x / 2 ^ 8 % 256 * 256 + x % 256 ≡ x % 65536 = omega arith in
    rw (p, q)
    at (four (decimal_written (x / 2 ^ 24) (omega arith)) (decimal_written (x / 2 ^ 16 % 256) (omega arith)) (decimal_written (x / 2 ^ 8 % 256) (omega arith))
    (decimal_written (x % 256) (omega arith)))

-- and there is no other for them
pub dotted_text_lem : {s l : List ℕ} → Dotted s l → s ≡ dotted_text (joined 0 l)
unfolding dotted_text joined
dotted_text_lem (four {a = a} {b = b} {c = c} {d = d} p q r w) =
    let small : (a ≤ 255) × (b ≤ 255) × (c ≤ 255) × (d ≤ 255) = (decimal_small p, decimal_small q, decimal_small r, decimal_small w) in
    let x : ℕ = (0 * 65536 + (a * 256 + b)) * 65536 + (c * 256 + d) in
    let e : x / 2 ^ 24 ≡ a = omega arith in
    let f : x / 2 ^ 16 % 256 ≡ b = omega arith in
    let g : x / 2 ^ 8 % 256 ≡ c = omega arith in
    let h : x % 256 ≡ d = omega arith in
    rw (e, f, g, h, decimal_text_lem p, decimal_text_lem q, decimal_text_lem r, decimal_text_lem w)

-- Under ::ffff:0:0/96 ---------------------------------------------------------------------------------------------------

ffff : Group (102 ∷ 102 ∷ 102 ∷ 102 ∷ []) 65535
ffff = let f = lower_case 5 (lit< tt) in hex4 f f f f

-- "::ffff:" and a dotted tail
tail_spells : {s l : List ℕ} → Dotted s l → Spells (ascii "::ffff:" ++ s) (0 ∷ 0 ∷ 0 ∷ 0 ∷ 0 ∷ 65535 ∷ l)
unfolding ascii
tail_spells (four p q r w) = gap empty (full (more ffff (two (four p q r w)))) (lit< tt)

-- the groups of a mapped address
pub mapped_groups : (high low : ℕ) → is_mapped high low ≡ true
    → four_groups high ++ four_groups low ≡ 0 ∷ 0 ∷ 0 ∷ 0 ∷ 0 ∷ 65535 ∷ (low % 2 ^ 32 / 65536) ∷ (low % 2 ^ 32 % 65536) ∷ []
unfolding four_groups
mapped_groups high low t =
    let m = mapped_halves high low t in
    let b : low / 2 ^ 48 ≡ 0 = omega (arith, m.1) in
    let c : low / 2 ^ 32 % 65536 ≡ 65535 = omega (arith, m.1) in
    let d : low / 65536 % 65536 ≡ low % 2 ^ 32 / 65536 = omega arith in
    let e : low % 65536 ≡ low % 2 ^ 32 % 65536 = omega arith in
    rw (m.0, b, c, d, e)

-- the text of a mapped address spells them
pub mapped_spells : (high low : ℕ) → is_mapped high low ≡ true → Spells (mapped_text low) (four_groups high ++ four_groups low)
unfolding mapped_text
mapped_spells high low t = rw (mapped_groups high low t) (tail_spells (dotted_written (low % 2 ^ 32) (omega arith)))

-- a bare dotted text and its mapped spelling are one key
pub bare_mapped : {s l : List ℕ} → Dotted s l → reading_of (ascii "::ffff:" ++ s) ≡ reading_of s
unfolding reading_of
bare_mapped r = rw (spells_read (tail_spells r), spells_read (bare r))
