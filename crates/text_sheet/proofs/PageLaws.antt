-- Laws of putting rows one behind the other.
use mathlib.Core.Path.{◌≡◌, refl, sym, ap, ap₂, ◌∙◌}
use mathlib.Core.Logic.{◌⊎◌, ⊎_elim}
use mathlib.Core.List.{List, [], ◌∷◌, ◌++◌, append_assoc, append-nil}
use Prim.Native.Nat.{ℕ, ◌+◌, ◌*◌, ◌≤◌, ◌<◌}
use native.Mathlib.Omega.{arith}
use lib.ListN.{length, take, drop, length-append, length-drop, take-append-drop}
use lib.Seq.{length-take-le, take_all, take_at, drop_at, drop-append-le, drop-drop, take-add}
use Rattle.keys.specs.Key.{key_of}
use Rattle.keys.specs.declared.Key.{Key}
use Rattle.text_write.specs.Decimal.{decimal_text}
use Rattle.text_write.specs.Writing.{written}
use Rattle.plain_set.specs.Rebuilt.{Pair, pair}
use Rattle.text_sheet.specs.Row.{row, heading, pair_row, rows}
use Rattle.text_sheet.specs.Steps.{Lines}
use Rattle.text_sheet.specs.theory.Lines.{heading_length, rows_append}

-- the row of a key and a label
pub record_row : (x l : ℕ) (k : Key) → k ≡ key_of x → row (written k.high k.low) (decimal_text l) ≡ pair_row (pair x l)
unfolding pair_row
record_row x l k e = ap (λ (h : Key). row (written h.high h.low) (decimal_text l)) e

-- ---- a line put over the part of a buffer from a place on

put_line : (out line r : List ℕ) (at k : ℕ) → 51 ≤ length (take k (drop at out)) → line ≡ r ++ drop 51 (take k (drop at out))
    → line ++ drop k (drop at out) ≡ r ++ drop (at + 51) out
put_line out line r at k h e =
    ap (◌++ drop k (drop at out)) e
    ∙ append_assoc r (drop 51 (take k (drop at out))) (drop k (drop at out))
    ∙ ap (r ++◌)
    (sym (drop-append-le 51 (take k (drop at out)) (drop k (drop at out)) h)
    ∙ ap (drop 51) (take-append-drop k (drop at out))
    ∙ drop-drop 51 at out)

-- ---- one record more

module _ (ps : List Pair) (n : ℕ) (p : Pair) (qs : List Pair) (e : drop n ps ≡ p ∷ qs) where
  some_left : n < length ps
  some_left = let l = ap (λ (x : List Pair). length x) e in omega (arith, length-drop n ps)

  take_more : take (n + 1) ps ≡ take n ps ++ p ∷ []
  take_more = take-add n 1 ps ∙ ap (λ (x : List Pair). take n ps ++ take 1 x) e

  drop_more : qs ≡ drop (n + 1) ps
  drop_more = sym (sym (drop-drop 1 n ps) ∙ ap (drop 1) e)

-- ---- the rows of the first n records of ps stand behind the first 51 bytes of out₀, and the records rest are left

pub record Upto (ps : List Pair) (n : ℕ) (rest : List Pair) (out₀ out : List ℕ) : Type 0 where
  pub few : n ≤ 40
  pub within : n ≤ length ps
  pub left : rest ≡ drop n ps
  pub long : length (rows (take n ps)) ≡ 51 * n
  pub are : out ≡ take 51 out₀ ++ (rows (take n ps) ++ drop (51 + 51 * n) out₀)

module _ (ps : List Pair) (out₀ : List ℕ) where
  pub upto_start : Upto ps 0 ps out₀ out₀
  unfolding rows
  upto_start = record { few = omega arith; within = omega arith; left = refl; long = refl; are = sym (take-append-drop 51 out₀) }

  module _ (n : ℕ) (rest : List Pair) (out : List ℕ) (u : Upto ps n rest out₀ out) (room : 2091 ≤ length out₀) where
    front : List ℕ
    front = take 51 out₀ ++ rows (take n ps)

    front_long : length front ≡ 51 + 51 * n
    unfolding front
    front_long = omega (arith, length-append (take 51 out₀) (rows (take n ps)), length-take-le 51 out₀ (omega arith), u.long)

    front_is : out ≡ front ++ drop (51 + 51 * n) out₀
    unfolding front
    front_is = u.are ∙ sym (append_assoc (take 51 out₀) (rows (take n ps)) (drop (51 + 51 * n) out₀))

    module _ (p : Pair) (qs : List Pair) (e : rest ≡ p ∷ qs) (few : n < 40) (one : length (pair_row p) ≡ 51) (line : List ℕ) (at k : ℕ) (at_is : at ≡ 51 + 51 * n)
        (wide : 51 ≤ length (take k (drop at out))) (put : line ≡ pair_row p ++ drop 51 (take k (drop at out))) where
      more : drop n ps ≡ p ∷ qs
      more = sym u.left ∙ e

      rows_more : rows (take (n + 1) ps) ≡ rows (take n ps) ++ pair_row p
      unfolding rows
      rows_more = ap rows (take_more ps n p qs more) ∙ rows_append (take n ps) (p ∷ []) ∙ ap (rows (take n ps) ++◌) (append-nil (pair_row p))

      put_more : take at out ++ (line ++ drop k (drop at out)) ≡ take 51 out₀ ++ (rows (take (n + 1) ps) ++ drop (51 + 51 * (n + 1)) out₀)
      unfolding front
      put_more =
          let long : length front ≡ at = front_long ∙ sym at_is in
          let next : 51 + 51 * n + 51 ≡ 51 + 51 * (n + 1) = omega arith in
          let a : take at out ≡ front = ap (take at) front_is ∙ take_at front (drop (51 + 51 * n) out₀) at long in
          let b : drop (at + 51) out ≡ drop (51 + 51 * (n + 1)) out₀ =
          sym (drop-drop 51 at out) ∙ ap (drop 51) (ap (drop at) front_is ∙ drop_at front (drop (51 + 51 * n) out₀) at long)
          ∙ drop-drop 51 (51 + 51 * n) out₀ ∙ ap (λ (x : ℕ). drop x out₀) next in
          ap₂ ◌++◌ a (put_line out line (pair_row p) at k wide put ∙ ap (pair_row p ++◌) b)
          ∙ append_assoc (take 51 out₀) (rows (take n ps)) (pair_row p ++ drop (51 + 51 * (n + 1)) out₀)
          ∙ ap (take 51 out₀ ++◌)
          (sym (append_assoc (rows (take n ps)) (pair_row p) (drop (51 + 51 * (n + 1)) out₀))
          ∙ ap (◌++ drop (51 + 51 * (n + 1)) out₀) (sym rows_more))

      pub upto_more : Upto ps (n + 1) qs out₀ (take at out ++ (line ++ drop k (drop at out)))
      upto_more =
          record {
            few = omega arith;
            within = omega (arith, some_left ps n p qs more);
            left = drop_more ps n p qs more;
            long = omega (arith, ap (λ (x : List ℕ). length x) rows_more, length-append (rows (take n ps)) (pair_row p), u.long);
            are = put_more;
          }

    -- ---- and no more: 40 of them, or all

    module _ (ends : (40 ≤ n) ⊎ (rest ≡ [])) where
      all_there : take n ps ≡ take 40 ps
      all_there =
          ⊎_elim (λ h. let e : n ≡ 40 = omega (arith, u.few) in ap (λ (x : ℕ). take x ps) e)
          (λ z.
          let l = ap (λ (x : List Pair). length x) (sym u.left ∙ z) in
          let all : length ps ≤ n = omega (arith, length-drop n ps) in
          take_all n ps all ∙ sym (take_all 40 ps (omega (arith, u.few))))
          ends

      pub upto_lines : (before : List ℕ) → out₀ ≡ heading ++ drop 51 before → (at : ℕ) → at ≡ 51 + 51 * n → Lines (take 40 ps) before out at
      upto_lines before e at at_is =
          let t : take 51 out₀ ≡ heading = ap (take 51) e ∙ take_at heading (drop 51 before) 51 heading_length in
          let d : drop (51 + 51 * n) out₀ ≡ drop (51 + 51 * n) before =
          sym (drop-drop (51 * n) 51 out₀) ∙ ap (drop (51 * n)) (ap (drop 51) e ∙ drop_at heading (drop 51 before) 51 heading_length)
          ∙ drop-drop (51 * n) 51 before in
          rw at_is
          (record {
            end = omega (arith, length-append heading (rows (take 40 ps)), heading_length, ap (λ (x : List Pair). length (rows x)) all_there, u.long);
            are = u.are
                ∙ ap₂ ◌++◌ t (ap₂ ◌++◌ (ap rows all_there) d)
                ∙ sym (append_assoc heading (rows (take 40 ps)) (drop (51 + 51 * n) before));
          })
