-- Rows: tabulated, packed into one number, and unpacked again.
use Rattle.std.specs.Prelude.{ℕ, zero, suc, ◌+◌, ◌*◌, ◌/◌, ◌%◌, ◌^◌, List, [], ◌∷◌, ◌++◌, length, drop, replicate}

-- f 0, f 1, .. f (n - 1)
abbrev pub tabulate : {A : Type 0} → ℕ → (ℕ → A) → List A
tabulate zero f = []
tabulate (suc n) f = f 0 ∷ tabulate n (λ i. f (suc i))

-- numbers of w bits each, one after the other, the first one on top
abbrev pub packed : ℕ → List ℕ → ℕ
packed w [] = 0
packed w (x ∷ xs) = x * 2 ^ (length xs * w) + packed w xs

-- the n numbers of w bits that v packs
abbrev pub unpacked : ℕ → ℕ → ℕ → List ℕ
unpacked w zero v = []
unpacked w (suc n) v = v / 2 ^ (n * w) % 2 ^ w ∷ unpacked w n (v % 2 ^ (n * w))

-- the row es in n places: its first n numbers, zeros behind
abbrev pub padded : ℕ → List ℕ → List ℕ
padded zero es = []
padded (suc n) [] = 0 ∷ padded n []
padded (suc n) (x ∷ es) = x ∷ padded n es

-- the row m with its first n numbers zero
abbrev pub cleared : ℕ → List ℕ → List ℕ
cleared n m = replicate n 0 ++ drop n m
