-- Fields, as RFC 5952 has them and as they are written.
use Rattle.std.specs.Prelude.{◌≡◌, refl, ◌⊎◌, List, [], ◌∷◌, ◌++◌, map, ℕ, ◌+◌, ◌*◌, ◌/◌, ◌%◌, ◌≤◌, ◌<◌, ltb, eqb}
use Rattle.std.proofs.Common.{sym, ◌∙◌, inl, inr, ⊎_elim, append-nil, arith, ltb-true, ltb-false, lt-ltb, le-ltb}
use Rattle.std.proofs.lemmas.Bool.{eqb-false}
use Rattle.laws.specs.Cases.{cases}
use Rattle.text_read.specs.Grammar.{HexDigit, decimal_digit, upper_case, lower_case, Group, hex1, hex2, hex3, hex4}
use Rattle.text_read.specs.theory.Bytes.{digit_below}
use Rattle.text_read.specs.theory.Joined.{Small}
use Rattle.text_write.specs.Writing.{hex_digit, trimmed, group_text, trailing, part_text}
use Rattle.text_write.specs.theory.Digits.{text_1, text_2, text_3, text_4}
use Rattle.text_calls.specs.Canonical.{Field, hexadecimal, Fields, none, last, next}
use Rattle.text_calls.specs.theory.Texts.{group_written}

-- A field ---------------------------------------------------------------------------------------------------------------

-- a digit that is no capital letter is the one that is written
digit_text : {x a : ℕ} → HexDigit x a → (x < 65) ⊎ (70 < x) → x ≡ hex_digit a
unfolding hex_digit
digit_text (decimal_digit a h) c = rw (lt-ltb a 10 h)
digit_text (upper_case a h) c = absurd (⊎_elim (λ k. omega arith) (λ k. omega arith) c)
digit_text (lower_case a h) c = rw (le-ltb (10 + a) 10 (omega arith)) (omega arith)

-- only "0" has the value 0
not_zero : {x a : ℕ} → HexDigit x a → (x ≡ 48 → ⊥) → 1 ≤ a
not_zero (decimal_digit a h) z = omega arith
not_zero (upper_case a h) z = omega arith
not_zero (lower_case a h) z = omega arith

-- the text of a field is what is written for its group
pub field_text : {s : List ℕ} {g : ℕ} → Field s g → s ≡ group_text g
field_text f = go f.group f
  where
    go : {s : List ℕ} {g : ℕ} → Group s g → Field s g → s ≡ group_text g
    go (hex1 {x = x} {a = a} p) f = rw (text_1 a (digit_below p), digit_text p (f.no_capital [] x [] refl))
    go (hex2 {x = x} {y = y} {a = a} {b = b} p q) f =
        let n = not_zero p (λ e. f.no_leading_zero y [] (rw e)) in
        let m : (a < 16) × (b < 16) = (digit_below p, digit_below q) in
        let g : ℕ = a * 16 + b in
        let i : g / 16 ≡ a = omega arith in
        let j : g % 16 ≡ b = omega arith in
        let v = digit_text p (f.no_capital [] x _ refl) in
        let w = digit_text q (f.no_capital (x ∷ []) y [] refl) in
        rw (text_2 g (omega arith) (omega arith), i, j, v, w)
    go (hex3 {x = x} {y = y} {z = z} {a = a} {b = b} {c = c} p q r) f =
        let n = not_zero p (λ e. f.no_leading_zero y (z ∷ []) (rw e)) in
        let m : (a < 16) × (b < 16) × (c < 16) = (digit_below p, digit_below q, digit_below r) in
        let g : ℕ = (a * 16 + b) * 16 + c in
        let i : g / 256 ≡ a = omega arith in
        let j : g / 16 % 16 ≡ b = omega arith in
        let k : g % 16 ≡ c = omega arith in
        let u = digit_text p (f.no_capital [] x _ refl) in
        let v = digit_text q (f.no_capital (x ∷ []) y _ refl) in
        let w = digit_text r (f.no_capital (x ∷ y ∷ []) z [] refl) in
        rw (text_3 g (omega arith) (omega arith), i, j, k, u, v, w)
    go (hex4 {x = x} {y = y} {z = z} {u = o} {a = a} {b = b} {c = c} {d = d} p q r s) f =
        let n = not_zero p (λ e. f.no_leading_zero y (z ∷ o ∷ []) (rw e)) in
        let m : (a < 16) × (b < 16) × (c < 16) × (d < 16) = (digit_below p, digit_below q, digit_below r, digit_below s) in
        let g : ℕ = ((a * 16 + b) * 16 + c) * 16 + d in
        let i : g / 4096 ≡ a = omega arith in
        let j : g / 256 % 16 ≡ b = omega arith in
        let k : g / 16 % 16 ≡ c = omega arith in
        let l : g % 16 ≡ d = omega arith in
        let t = digit_text p (f.no_capital [] x _ refl) in
        let u = digit_text q (f.no_capital (x ∷ []) y _ refl) in
        let v = digit_text r (f.no_capital (x ∷ y ∷ []) z _ refl) in
        let w = digit_text s (f.no_capital (x ∷ y ∷ z ∷ []) o [] refl) in
        rw (text_4 g (omega arith), i, j, k, l, t, u, v, w)

-- what is written for a group has no capital letter
hex_capital : (n : ℕ) → (hex_digit n < 65) ⊎ (70 < hex_digit n)
unfolding hex_digit
hex_capital n =
    cases (ltb n 10) (λ e. rw e (inl (omega (arith, ltb-true n 10 e)))) (λ e. rw e (inr (omega (arith, ltb-false n 10 e))))

no_capitals : (l t : List ℕ) (x : ℕ) (u : List ℕ) → map hex_digit l ≡ t ++ x ∷ u → (x < 65) ⊎ (70 < x)
no_capitals [] [] x u e = absurd (let z : ◌≡◌ {A = ℕ} 0 1 = cc in omega arith)
no_capitals [] (y ∷ t) x u e = absurd (let z : ◌≡◌ {A = ℕ} 0 1 = cc in omega arith)
no_capitals (d ∷ l) [] x u e = let q : hex_digit d ≡ x = cc in rw q at (hex_capital d)
no_capitals (d ∷ l) (y ∷ t) x u e = no_capitals l t x u (cc)

-- nor a leading zero
hex_zero : (n : ℕ) → hex_digit n ≡ 48 → n ≡ 0
unfolding hex_digit
hex_zero n =
    cases (ltb n 10) (λ t. rw t (λ e. omega arith)) (λ t. rw t (λ e. omega (arith, ltb-false n 10 t)))

no_zeros : (l : List ℕ) (x : ℕ) (t : List ℕ) → map hex_digit (trimmed l) ≡ 48 ∷ x ∷ t → ⊥
unfolding trimmed
no_zeros [] x t e = let z : ◌≡◌ {A = ℕ} 0 1 = cc in omega arith
no_zeros (d ∷ []) x t e = let z : ◌≡◌ {A = ℕ} 0 1 = cc in omega arith
no_zeros (d ∷ f ∷ l) x t e =
    cases (eqb d 0) (λ n. no_zeros (f ∷ l) x t (rw n at e))
    (λ n. let r = rw n at e in let q : hex_digit d ≡ 48 = cc in eqb-false d 0 n (hex_zero d q))

pub group_field : (g : ℕ) → g < 65536 → Field (group_text g) g
unfolding group_text
group_field g h =
    let l : List ℕ = g / 4096 ∷ g / 256 % 16 ∷ g / 16 % 16 ∷ g % 16 ∷ [] in
    record { group = group_written g h; no_leading_zero = no_zeros l; no_capital = no_capitals (trimmed l) }

-- Fields parted by colons -----------------------------------------------------------------------------------------------

pub fields_text : {s l : List ℕ} → Fields hexadecimal s l → s ≡ part_text l
unfolding part_text trailing
fields_text none = refl
fields_text (last {g = g} f) = field_text f ∙ sym (append-nil (group_text g))
fields_text (next f r) = rw (field_text f, fields_text r)

pub part_fields : (l : List ℕ) → Small l → Fields hexadecimal (part_text l) l
unfolding part_text trailing
part_fields [] h = none
part_fields (g ∷ []) h = rw (append-nil (group_text g)) (last (group_field g h.0))
part_fields (g ∷ f ∷ l) h = next (group_field g h.0) (part_fields (f ∷ l) h.1)
