-- A text that is put from its end to its start.
use mathlib.Core.Path.{◌≡◌, sym, ap, ap₂, ◌∙◌}
use mathlib.Core.List.{List, [], ◌∷◌, ◌++◌, append_assoc}
use Prim.Native.Nat.{ℕ, suc, ◌+◌, ◌-◌, ◌*◌, ◌/◌, ◌%◌, ◌≤◌, ◌<◌}
use native.Mathlib.Omega.{arith}
use lib.ListN.{length, take, drop, length-append, take-append-drop}
use lib.Seq.{length-take-le, take_at, drop_at, drop-drop}
use lib.Dec.{lit<}
use Rattle.text_write.specs.Decimal.{decimal_text}
use Rattle.text_write.specs.WriterSteps.{packed, unpacked, Puts, PutsBack, EndsOf}
use Rattle.text_write.specs.Writing.{mapped_text}
use Rattle.text_write.specs.declared.mapped.Ends.{Ends}
use Rattle.text_write.specs.theory.Mapped.{mapped_size}
use Rattle.text_write.specs.theory.Digits.{unpacked_is, unpacked_next}
use Rattle.text_write.proofs.Decimals.{count_within, last_digits}

-- One decimal -----------------------------------------------------------------------------------------------------------

module _ (o o' : List ℕ) (at end n : ℕ) (i : at + 4 ≡ end) (f : end ≤ length o) (h : n < 256) where
  -- what stands from a place on, where four bytes were stored before `end`
  from_there : (p : List ℕ) (j m : ℕ) → Puts (take at o ++ p) (at + 4) o o' (at + 4) → m ≡ at + j → drop m o' ≡ drop j (p ++ drop end o)
  from_there p j m e l =
      let q = p ++ drop (at + 4) o in
      let s : drop at o' ≡ q =
      ap (drop at) (sym (take-append-drop (at + 4) o') ∙ ap₂ ◌++◌ e.is e.kept ∙ append_assoc (take at o) p (drop (at + 4) o))
      ∙ drop_at (take at o) q at (length-take-le at o (omega arith))
      in
      ap (λ (y : ℕ). drop y o') l ∙ sym (drop-drop j at o') ∙ ap (drop j) s ∙ ap (λ (y : ℕ). drop j (p ++ drop y o)) i

  abbrev a : ℕ
  a = 48 + n / 100

  abbrev b : ℕ
  b = 48 + n / 10 % 10

  abbrev c : ℕ
  c = 48 + n % 10

  abbrev k : ℕ
  k = length (decimal_text n)

  pub decimal_back : (x : ℕ) → x ≡ packed a b c 46 * 256 → Puts (take at o ++ unpacked x) (at + 4) o o' (at + 4) → PutsBack (decimal_text n) end o o'
  decimal_back x m e =
      let w = count_within n h in
      let u : unpacked x ≡ 0 ∷ a ∷ b ∷ c ∷ [] = ap unpacked m ∙ unpacked_next a b c 46 (omega arith) (omega arith) (omega arith) in
      let j : end - k ≡ at + suc (3 - k) = omega arith in
      record {
        within = omega arith;
        is = from_there (unpacked x) (suc (3 - k)) (end - k) e j ∙ ap (λ (l : List ℕ). drop (suc (3 - k)) (l ++ drop end o)) u ∙ last_digits n h (drop end o);
      }

  pub dot_back : (x : ℕ) → x ≡ packed a b c 46 → Puts (take at o ++ unpacked x) (at + 4) o o' (at + 4) → PutsBack (decimal_text n ++ 46 ∷ []) end o o'
  dot_back x m e =
      let w = count_within n h in
      let u : unpacked x ≡ a ∷ b ∷ c ∷ 46 ∷ [] = ap unpacked m ∙ unpacked_is a b c 46 (omega arith) (omega arith) (omega arith) (lit< tt) in
      let s = length-append (decimal_text n) (46 ∷ []) in
      let j : end - length (decimal_text n ++ 46 ∷ []) ≡ at + (3 - k) = omega arith in
      record {
        within = omega arith;
        is =
            from_there (unpacked x) (3 - k) _ e j
            ∙ ap (λ (l : List ℕ). drop (3 - k) (l ++ drop end o)) u
            ∙ last_digits n h (46 ∷ drop end o)
            ∙ sym (append_assoc (decimal_text n) (46 ∷ []) (drop end o));
      }

-- One before the other --------------------------------------------------------------------------------------------------

pub back_more : {x y o t u : List ℕ} {end m : ℕ} → PutsBack x end o t → PutsBack y m t u → m + length x ≡ end → PutsBack (y ++ x) end o u
back_more {x} {y} {o} {t} {u} {end} {m} p q e =
    let l = length-append y x in
    let w = q.within in
    let i : end - length (y ++ x) ≡ m - length y = omega arith in
    let j : m ≡ end - length x = omega arith in
    record {
      within = omega arith;
      is =
          ap (λ (n : ℕ). drop n u) i
          ∙ q.is
          ∙ ap (λ (l : List ℕ). y ++ l) (ap (λ (n : ℕ). drop n t) j ∙ p.is)
          ∙ sym (append_assoc y x (drop end o));
    }

-- four decimals, a dot behind each but the last
pub four_back : (a b c d : List ℕ) (first second third : ℕ) {last : ℕ} {o t u v w : List ℕ} → PutsBack d last o t → PutsBack (c ++ 46 ∷ []) (third + 1) t u
    → PutsBack (b ++ 46 ∷ []) (second + 1) u v → PutsBack (a ++ 46 ∷ []) (first + 1) v w
    → second ≡ first + 1 + length b → third ≡ second + 1 + length c → last ≡ third + 1 + length d
    → PutsBack ((a ++ 46 ∷ []) ++ ((b ++ 46 ∷ []) ++ ((c ++ 46 ∷ []) ++ d))) last o w
four_back a b c d first second third p q r s e f g =
    let l = length-append c (46 ∷ []) in
    let m = length-append b (46 ∷ []) in
    let n = length-append (c ++ 46 ∷ []) d in
    let z = length-append (b ++ 46 ∷ []) ((c ++ 46 ∷ []) ++ d) in
    back_more (back_more (back_more p q (omega arith)) r (omega arith)) s (omega arith)

-- and what comes first
pub front_back : {x y w o t u : List ℕ} {end n : ℕ} → PutsBack x end o t → Puts y n t u n → length y ≡ n → y ++ x ≡ w → length w ≡ end → Puts w end o u end
front_back {x} {y} {w} {o} {t} {u} {end} {n} p q l z s =
    let i : n ≡ end - length x = omega (arith, l, s, ap length z, length-append y x) in
    let e : u ≡ w ++ drop end o =
    sym (take-append-drop n u)
    ∙ ap₂ ◌++◌ q.is (q.kept ∙ ap (λ (m : ℕ). drop m t) i ∙ p.is)
    ∙ sym (append_assoc y x (drop end o))
    ∙ ap (λ (m : List ℕ). m ++ drop end o) z
    in
    record {
      within = omega arith;
      is = ap (take end) e ∙ take_at w (drop end o) end s;
      kept = ap (drop end) e ∙ drop_at w (drop end o) end s;
    }

-- the text ends where its last decimal does
pub ends_size : {low : ℕ} {e : Ends} → EndsOf low e → e.last ≡ length (mapped_text low)
ends_size {low} h = omega (arith, mapped_size low, h.first, h.second, h.third, h.last)
