-- A list that is filled from the front: what stands before a place, once it was stored there.
use Rattle.std.specs.Prelude.{◌≡◌, List, [], ◌∷◌, ◌++◌, ℕ, ◌+◌, ◌-◌, ◌≤◌, ◌<◌, length, take, drop, get_or, set}
use Rattle.std.proofs.Common.{sym, ap, ◌∙◌, append_assoc, add-one, arith, length-set, take-suc, length-take-le, take-take, drop-drop, drop-set-lt}
use Rattle.std.proofs.Math.Seq.{take-append-add, append_snoc}
use Rattle.std.proofs.lemmas.List.{set_at}
use Rattle.laws.specs.Lists.{drop_next, take_stored}

-- one more behind what is filled
pub fill_more : (o p : List ℕ) (n m v : ℕ) → take n o ≡ p → m ≡ n + 1 → n < length o → take m (set o n v) ≡ p ++ v ∷ []
fill_more o p n m v e q h = rw (q, ← e) (take_stored o n v h)

pub fill_four : (o : List ℕ) (n u v w x : ℕ) → n + 4 ≤ length o
    → take (n + 4) (set (set (set (set o n u) (n + 1) v) (n + 2) w) (n + 3) x) ≡ take n o ++ u ∷ v ∷ w ∷ x ∷ []
fill_four o n u v w x h =
    fill_more _ _ (n + 3) (n + 4) x
    (fill_more _ _ (n + 2) (n + 3) w
    (fill_more _ _ (n + 1) (n + 2) v (take_stored o n u (omega arith)) (omega arith) (simp length-set (omega arith)))
    (omega arith)
    (simp length-set (omega arith)))
    (omega arith)
    (simp length-set (omega arith))
    ∙ simp append_assoc

-- what is kept from a place on is kept from a later one on
pub kept_later : (o o' : List ℕ) (n m : ℕ) → n ≤ m → drop n o' ≡ drop n o → drop m o' ≡ drop m o
kept_later o o' n m h e =
    let p : n + (m - n) ≡ m = omega arith in
    rw p at (sym (drop-drop (m - n) n o') ∙ ap (drop (m - n)) e ∙ drop-drop (m - n) n o)

-- also where something was stored before it
pub kept_stored : (o o' : List ℕ) (n m i v : ℕ) → n ≤ m → i < m → drop n o' ≡ drop n o → drop m (set o' i v) ≡ drop m o
kept_stored o o' n m i v h k e = drop-set-lt m o' i v k ∙ kept_later o o' n m h e

pub kept_four : (o : List ℕ) (n u v w x : ℕ) → drop (n + 4) (set (set (set (set o n u) (n + 1) v) (n + 2) w) (n + 3) x) ≡ drop (n + 4) o
kept_four o n u v w x =
    drop-set-lt (n + 4) _ (n + 3) x (omega arith)
    ∙ drop-set-lt (n + 4) _ (n + 2) w (omega arith)
    ∙ drop-set-lt (n + 4) _ (n + 1) v (omega arith)
    ∙ drop-set-lt (n + 4) o n u (omega arith)

-- where a part is filled, a shorter one is too
pub filled_less : (o o' p : List ℕ) (n m k : ℕ) → n ≤ length o → m ≤ k → take (n + k) o' ≡ take n o ++ p → take (n + m) o' ≡ take n o ++ take m p
filled_less o o' p n m k h l e =
    let q : length (take n o) ≡ n = length-take-le n o h in
    sym (take-take (n + m) (n + k) o' (omega arith)) ∙ rw e
    (ap (λ (i : ℕ). take (i + m) (take n o ++ p)) (sym q) ∙ take-append-add (take n o) p m)

-- a step of a copy, from the front
pub copy_step : (t o : List ℕ) (i : ℕ) → i < length t → i < length o
    → set (take i t ++ drop i o) i (get_or t i 0) ≡ take (i + 1) t ++ drop (i + 1) o
copy_step t o i h k =
    let p : length (take i t) ≡ i = length-take-le i t (omega arith) in
    let n : take (i + 1) t ≡ take i t ++ get_or t i 0 ∷ [] = rw (add-one i) (take-suc t i 0 h) in
    rw (drop_next o i 0 k, n, append_snoc (take i t) (get_or t i 0) (drop (i + 1) o))
    (set_at (take i t) (get_or o i 0) (drop (i + 1) o) (get_or t i 0) i p)
