-- What stands in a line after each step that fills it.
use mathlib.Core.Path.{◌≡◌, refl, sym, ap, ap₂, ◌∙◌}
use mathlib.Core.List.{List, [], ◌∷◌, ◌++◌, append-nil, append_assoc}
use Prim.Native.Nat.{ℕ, suc, ◌+◌, ◌-◌, ◌/◌, ◌%◌, ◌≤◌, ◌<◌}
use native.Mathlib.Omega.{arith}
use lib.ListN.{length, get_or, take, drop, set, replicate, length-append, length-set, length-replicate, replicate-append-replicate, take-append-drop}
use lib.Seq.{length-take-le, take-suc, append_snoc, set_at, take_at, drop_at}
use Rattle.laws.specs.Lists.{drop_next}
use Rattle.text_write.specs.Decimal.{decimal_text}
use Rattle.text_write.specs.WriterSteps.{Puts}
use Rattle.text_write.specs.theory.Decimal.{decimal_one, decimal_more, decimal_some}
use Rattle.text_write.specs.theory.Stores.{kept_later}
use Rattle.text_sheet.specs.Row.{left_in, right_in, row}

abbrev spaces : ℕ → List ℕ
spaces n = replicate n 32

spaces_length : (n : ℕ) → length (spaces n) ≡ n
spaces_length n = length-replicate n 32

-- one more space
space_behind : (t r : List ℕ) (k x i : ℕ) → length t + k ≡ i → set (t ++ (spaces k ++ x ∷ r)) i 32 ≡ t ++ (spaces (k + 1) ++ r)
space_behind t r k x i h =
    ap (λ (y : List ℕ). set y i 32) (sym (append_assoc t (spaces k) (x ∷ r)))
    ∙ set_at (t ++ spaces k) x r 32 i (omega (arith, length-append t (spaces k), spaces_length k))
    ∙ append_assoc t (spaces k) (32 ∷ r)
    ∙ ap (λ (y : List ℕ). t ++ y) (sym (append_snoc (spaces k) 32 r) ∙ ap (λ (y : List ℕ). y ++ r) (replicate-append-replicate k 1 32))

pub space_more : (l : List ℕ) (from i : ℕ) → from ≤ i → i < length l
    → set (take from l ++ (spaces (i - from) ++ drop i l)) i 32 ≡ take from l ++ (spaces (i + 1 - from) ++ drop (i + 1) l)
space_more l from i f h =
    let n : i + 1 - from ≡ i - from + 1 = omega arith in
    rw (drop_next l i 0 h, n)
    (space_behind (take from l) (drop (i + 1) l) (i - from) (get_or l i 0) i (omega (arith, length-take-le from l (omega arith))))

-- A number that ends before `end` -------------------------------------------------------------------------------------------

-- its last digits are put, before i the others are to stand: those of v
pub record Right (l : List ℕ) (end n : ℕ) (o : List ℕ) (i v : ℕ) : Type 0 where
  pub rest : List ℕ
  pub digits : decimal_text n ≡ decimal_text v ++ rest
  pub before : i + length rest ≡ end
  pub same : length o ≡ length l
  pub is : o ≡ take i l ++ (rest ++ drop end l)

module _ {l : List ℕ} {end n : ℕ} (f : (length (decimal_text n) ≤ end) × (end ≤ length l)) where
  pub none_put : Right l end n l end n
  none_put =
      record {
        rest = [];
        digits = sym (append-nil (decimal_text n));
        before = omega arith;
        same = refl;
        is = sym (take-append-drop end l);
      }

  module _ {o : List ℕ} {i v : ℕ} (p : Right l end n o i v) where
    -- there is room for one of them at least
    pub room : 0 < i
    room = omega (arith, ap length p.digits, length-append (decimal_text v) p.rest, decimal_some v, p.before)

    pub inside : i - 1 < length o
    inside = omega (arith, room, p.before, p.same)

    one_stored : (d : ℕ) → set o (i - 1) d ≡ take (i - 1) l ++ d ∷ (p.rest ++ drop end l)
    one_stored d =
        let k : suc (i - 1) ≡ i = omega (arith, room) in
        let r = p.rest ++ drop end l in
        let h : i - 1 < length l = omega (arith, inside, p.same) in
        let t : take i l ≡ take (i - 1) l ++ get_or l (i - 1) 0 ∷ [] = ap (λ (j : ℕ). take j l) (sym k) ∙ take-suc l (i - 1) 0 h in
        ap (λ (y : List ℕ). set y (i - 1) d)
        (p.is ∙ ap (λ (y : List ℕ). y ++ r) t ∙ append_snoc (take (i - 1) l) (get_or l (i - 1) 0) r)
        ∙ set_at (take (i - 1) l) (get_or l (i - 1) 0) r d (i - 1) (length-take-le (i - 1) l (omega arith))

    -- one digit more
    pub one_more : 10 ≤ v → Right l end n (set o (i - 1) (48 + v % 10)) (i - 1) (v / 10)
    one_more h =
        record {
          rest = (48 + v % 10) ∷ p.rest;
          digits = p.digits ∙ ap (λ (y : List ℕ). y ++ p.rest) (decimal_more v h) ∙ append_snoc (decimal_text (v / 10)) (48 + v % 10) p.rest;
          before = omega (arith, room, p.before);
          same = length-set o (i - 1) (48 + v % 10) ∙ p.same;
          is = one_stored (48 + v % 10);
        }

    -- the first digit
    pub all_put : v < 10 → set o (i - 1) (48 + v) ≡ take (end - length (decimal_text n)) l ++ (decimal_text n ++ drop end l)
    all_put h =
        let e : decimal_text n ≡ (48 + v) ∷ p.rest = p.digits ∙ ap (λ (y : List ℕ). y ++ p.rest) (decimal_one v h) in
        let k : end - suc (length p.rest) ≡ i - 1 = omega (arith, p.before) in
        rw (e, k) (one_stored (48 + v))

-- A row --------------------------------------------------------------------------------------------------------------------

-- spaces are cut in three
spaces_cut : (a r : List ℕ) (n i j k : ℕ) → n ≡ i + (j + k) → a ++ (spaces n ++ r) ≡ a ++ spaces i ++ spaces j ++ (spaces k ++ r)
spaces_cut a r n i j k e =
    let s : spaces (i + (j + k)) ≡ spaces i ++ (spaces j ++ spaces k) =
    sym (replicate-append-replicate i (j + k) 32) ∙ ap (λ (y : List ℕ). spaces i ++ y) (sym (replicate-append-replicate j k 32))
    in
    rw (e, s) (simp append_assoc)

module _ (a d l : List ℕ) (ha : length a ≤ 39) (hd : length d ≤ 10) (hl : 51 ≤ length l) where
  abbrev columns : List ℕ
  columns = a ++ spaces (39 - length a)

  abbrev gap : List ℕ
  gap = 32 ∷ spaces (10 - length d)

  -- what stands before the label
  abbrev front : List ℕ
  front = columns ++ gap

  front_length : length front ≡ 50 - length d
  front_length =
      omega (
        arith,
        length-append columns gap,
        length-append a (spaces (39 - length a)),
        spaces_length (39 - length a),
        spaces_length (10 - length d),
      )

  -- the label stored over the last spaces
  labelled : (r o : List ℕ) → o ≡ front ++ (spaces (length d) ++ r) → take (50 - length d) o ++ (d ++ drop 50 o) ≡ front ++ (d ++ r)
  labelled r o e =
      let n : length (front ++ spaces (length d)) ≡ 50 = omega (arith, length-append front (spaces (length d)), front_length, spaces_length (length d)) in
      ap (λ (y : List ℕ). take (50 - length d) y ++ (d ++ drop 50 y)) e
      ∙ ap₂ (λ (y z : List ℕ). y ++ (d ++ z)) (take_at front (spaces (length d) ++ r) (50 - length d) front_length)
      (ap (drop 50) (sym (append_assoc front (spaces (length d)) r)) ∙ drop_at (front ++ spaces (length d)) r 50 n)

  row_is : row a d ++ drop 51 l ≡ front ++ d ++ 10 ∷ drop 51 l
  unfolding row left_in right_in
  row_is = simp append_assoc

  -- and the line feed
  closed : set (front ++ (d ++ drop 50 l)) 50 10 ≡ row a d ++ drop 51 l
  closed =
      let n : length (front ++ d) ≡ 50 = omega (arith, length-append front d, front_length) in
      ap (λ (y : List ℕ). set (front ++ (d ++ y)) 50 10) (drop_next l 50 0 (omega arith))
      ∙ ap (λ (y : List ℕ). set y 50 10) (sym (append_assoc front d (get_or l 50 0 ∷ drop 51 l)))
      ∙ set_at (front ++ d) (get_or l 50 0) (drop 51 l) 10 50 n
      ∙ sym row_is

  -- the address put, spaces behind it up to `to`, the label put so that it ends before `end`, and a line feed
  pub row_filled : {o₁ o₂ o₃ : List ℕ} {n to end feed : ℕ} → Puts a 40 l o₁ n → length o₁ ≡ length l
      → o₂ ≡ take n o₁ ++ (spaces (to - n) ++ drop to o₁)
      → o₃ ≡ take (end - length d) o₂ ++ (d ++ drop end o₂)
      → to ≡ 50 → end ≡ 50 → feed ≡ 10 → set o₃ 50 feed ≡ row a d ++ drop 51 l
  row_filled {o₁} {o₂} {o₃} {n} {to} {end} {feed} p s e f t u v =
      let m : n ≡ length a = sym (length-take-le n o₁ (omega (arith, p.within))) ∙ ap length p.is in
      let c : o₂ ≡ front ++ (spaces (length d) ++ drop 50 l) =
      e
      ∙ ap₂ (λ (y : List ℕ) (k : ℕ). y ++ (spaces (k - n) ++ drop k o₁)) p.is t
      ∙ ap₂ (λ (k : ℕ) (y : List ℕ). a ++ (spaces (50 - k) ++ y)) m (kept_later l o₁ 40 50 (omega arith) p.kept)
      ∙ spaces_cut a (drop 50 l) (50 - length a) (39 - length a) (suc (10 - length d)) (length d) (omega arith)
      in
      ap₂ (λ (y : List ℕ) (b : ℕ). set y 50 b)
      (f ∙ ap (λ (k : ℕ). take (k - length d) o₂ ++ (d ++ drop k o₂)) u ∙ labelled (drop 50 l) o₂ c) v
      ∙ closed
