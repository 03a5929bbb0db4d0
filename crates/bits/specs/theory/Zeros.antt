-- Bytes that are zero, as a field of zeros.
use Rattle.std.specs.Prelude.{◌≡◌, List, [], ◌∷◌, ◌++◌, ℕ, zero, suc, ◌+◌, ◌*◌, ◌≤◌, ◌<◌, length, take, drop, replicate, set}
use Rattle.std.proofs.Common.{sym, ap, ◌∙◌, zero-add, suc-add, add-one, arith, take-append-drop, length-drop, length-take-le}
use Rattle.std.proofs.lemmas.List.Edits.{fill_more}
use Rattle.bits.specs.Bytes.{Bytes}
use Rattle.bits.specs.Put.{put_field}
use Rattle.bits.specs.theory.Puts.{put_zero}
use Rattle.bits.specs.theory.Words.{put_byte_more}

set_behind : (p q : List ℕ) (k v : ℕ) → set (p ++ q) (length p + k) v ≡ p ++ set q k v
set_behind [] q k v = ap (λ (n : ℕ). set q n v) (zero-add k)
set_behind (x ∷ p) q k v = ap (λ (n : ℕ). set (x ∷ (p ++ q)) n v) (suc-add (length p) k) ∙ ap (x ∷◌) (set_behind p q k v)

-- n bytes from byte i on
zero_row : (s : List ℕ) (i n : ℕ) → Bytes s → i + n ≤ length s → take i s ++ (replicate n 0 ++ drop n (drop i s)) ≡ put_field s (8 * i) (8 * n) 0
zero_row s i zero b l = take-append-drop i s ∙ sym (put_zero s (8 * i) 0)
zero_row s i (suc n) b l =
    let d = drop i s in
    let e : length (take i s) + n ≡ i + n = omega (arith, length-take-le i s (omega arith)) in
    let h : n < length (drop i s) = omega (arith, length-drop i s) in
    let w : 8 * suc n ≡ 8 * n + 8 = omega arith in
    sym
    (ap (λ (m : ℕ). put_field s (8 * i) m 0) w
    ∙ put_byte_more s (8 * i) (8 * n) (i + n) 0 b (omega arith) (omega arith)
    ∙ ap (λ (t : List ℕ). set t (i + n) 0) (sym (zero_row s i n b (omega arith)))
    ∙ ap (λ (k : ℕ). set (take i s ++ (replicate n 0 ++ drop n d)) k 0) (sym e)
    ∙ set_behind (take i s) (replicate n 0 ++ drop n d) n 0
    ∙ ap (take i s ++◌) (fill_more n 0 d h ∙ ap (λ (k : ℕ). replicate k 0 ++ drop k d) (add-one n)))

-- the same, of a part of the bytes that was lent
pub zeros_put : (s p : List ℕ) (i n : ℕ) → Bytes s → i + n ≤ length s → p ≡ replicate (length (take n (drop i s))) 0
    → take i s ++ (p ++ drop n (drop i s)) ≡ put_field s (8 * i) (8 * n) 0
zeros_put s p i n b l e =
    let k : length (take n (drop i s)) ≡ n = length-take-le n (drop i s) (omega (arith, length-drop i s)) in
    ap (λ (q : List ℕ). take i s ++ (q ++ drop n (drop i s))) (e ∙ ap (λ (m : ℕ). replicate m 0) k) ∙ zero_row s i n b l
