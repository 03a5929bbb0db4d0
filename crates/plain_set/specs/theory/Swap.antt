-- The swap that delete makes: the list's last entry takes the match's place.
use Rattle.std.specs.Prelude.{◌≡◌, Bool, List, ℕ, suc, ◌+◌, ◌-◌, ◌<◌, length, get_or, set, take, eqb}
use Rattle.std.proofs.Common.{ap, ◌∙◌, arith, length-set, get_or-set_same, get_or-set_other, eqb-true}
use Rattle.std.proofs.lemmas.Bool.{eqb-false}
use Rattle.laws.specs.Folds.{count}
use Rattle.laws.specs.Cases.{cases}
use Rattle.table.specs.theory.Formed.{All, all_at, all_set, all_take}
use Rattle.plain_set.specs.theory.Count.{one, count_set, count_init}

-- the last slot moves to the place p, and the list ends one slot earlier
abbrev pub swap_out : List ℕ → ℕ → List ℕ
swap_out es p = take (length es - 1) (set es p (get_or es (length es - 1) 0))

-- the slot at p is gone, and no other
pub count_swap : (f : ℕ → Bool) (es : List ℕ) (p : ℕ) → p < length es → count f es ≡ one (f (get_or es p 0)) + count f (swap_out es p)
count_swap f es p h =
    let m : ℕ = length es - 1 in
    let v : ℕ = get_or es m 0 in
    let long : length (set es p v) ≡ suc m = omega (arith, length-set es p v) in
    let last : get_or (set es p v) m 0 ≡ v =
    cases (eqb m p)
    (λ q. let z : m ≡ p = eqb-true m p q in ap (λ (n : ℕ). get_or (set es p v) n 0) z ∙ get_or-set_same es p v 0 h)
    (λ q. get_or-set_other es p m v 0 (eqb-false m p q)) in
    omega (arith, count_set f es p v 0 h, count_init f (set es p v) m 0 long, ap (λ (x : ℕ). one (f x)) last)

pub all_swap : {P : ℕ → Type 0} {es : List ℕ} (p : ℕ) → p < length es → All P es → All P (swap_out es p)
all_swap {es = es} p h a = all_take (length es - 1) (all_set a p (all_at a 0 (length es - 1) (omega arith)))
