-- Bytes that are put into a part of a buffer, and bytes that are moved to its front.
use mathlib.Core.Path.{◌≡◌, sym, ap, ◌∙◌}
use mathlib.Core.List.{List, [], ◌∷◌, ◌++◌}
use Prim.Native.Nat.{ℕ, suc, ◌+◌, ◌≤◌, ◌<◌}
use native.Mathlib.Numerals.{add-one}
use native.Mathlib.Omega.{arith}
use lib.ListN.{length, get_or, set, take, drop, length-drop}
use lib.Seq.{length-take-le, take-suc, take-append-le, take-append-add, get_or-drop, take-suc-set, drop-set-lt, drop-drop}

-- a text that was put at the start of the part from `made` on, read in the whole
pub part_written : (out ys z text : List ℕ) (made n : ℕ) → made ≤ length out → n ≤ length ys → take n ys ≡ text
    → take (made + n) (take made out ++ (ys ++ z)) ≡ take made out ++ text
part_written out ys z text made n h k e =
    ap (λ (m : ℕ). take (m + n) (take made out ++ (ys ++ z))) (sym (length-take-le made out h))
    ∙ take-append-add (take made out) (ys ++ z) n
    ∙ ap (λ (x : List ℕ). take made out ++ x) (take-append-le n ys z k ∙ e)

-- a move towards the front, one byte a turn: j bytes have been moved, and those behind them are as they were
pub kept_more : (buf first : List ℕ) (at i j : ℕ) → at + j ≡ i → i < length buf → length buf ≡ length first
    → take j buf ≡ take j (drop at first) → drop j buf ≡ drop j first
    → (take (j + 1) (set buf j (get_or buf i 0)) ≡ take (j + 1) (drop at first)) × (drop (j + 1) (set buf j (get_or buf i 0)) ≡ drop (j + 1) first)
kept_more buf first at i j e h l ht hd =
    let k : j + at ≡ i = omega arith in
    let same : get_or buf i 0 ≡ get_or first i 0 =
    ap (λ (n : ℕ). get_or buf n 0) (sym k) ∙ sym (get_or-drop j buf at 0) ∙ ap (λ (r : List ℕ). get_or r at 0) hd
    ∙ get_or-drop j first at 0 ∙ ap (λ (n : ℕ). get_or first n 0) k in
    let there : get_or (drop at first) j 0 ≡ get_or first i 0 = get_or-drop at first j 0 ∙ ap (λ (n : ℕ). get_or first n 0) e in
    let a : take (suc j) (set buf j (get_or buf i 0)) ≡ take j buf ++ (get_or buf i 0 ∷ []) = take-suc-set buf j (get_or buf i 0) (omega arith) in
    let b : take (suc j) (drop at first) ≡ take j (drop at first) ++ (get_or (drop at first) j 0 ∷ []) = take-suc (drop at first) j 0 (omega (arith, length-drop at first)) in
    let d : drop (suc j) (set buf j (get_or buf i 0)) ≡ drop (suc j) buf = drop-set-lt (suc j) buf j (get_or buf i 0) (omega arith) in
    let f : drop (j + 1) buf ≡ drop (j + 1) first = sym (drop-drop 1 j buf) ∙ ap (drop 1) hd ∙ drop-drop 1 j first in
    (rw add-one (cc), cc (add-one j))
