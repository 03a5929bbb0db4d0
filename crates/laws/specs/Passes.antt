-- A search that passes several places at once by a test.
use Rattle.std.specs.Prelude.{◌≡◌, Bool, true, ◌&&◌, ℕ, ◌+◌}
use Rattle.std.proofs.Math.Bool.{and-eq-true_iff}

-- f tells of a place what a search from there on finds: if the test t is true, the n places from i on can be passed
abbrev pub Passes : (ℕ → ℕ) → ℕ → ℕ → Bool → Type 0
Passes f n i t = t ≡ true → f i ≡ f (i + n)

-- four times n places, each where the ones before it end, and each with its test
pub passes_four : (f : ℕ → ℕ) (n i : ℕ) {j k l m : ℕ} (t u v w : Bool) → j ≡ i + n → k ≡ j + n → l ≡ k + n → m ≡ l + n
    → Passes f n i t → Passes f n j u → Passes f n k v → Passes f n l w
    → t && u && v && w ≡ true → f i ≡ f m
passes_four f n i t u v w ej ek el em a b c d e =
    let x = (and-eq-true_iff (t && u && v) w).0 e in
    let y = (and-eq-true_iff (t && u) v).0 x.0 in
    let z = (and-eq-true_iff t u).0 y.0 in
    cc (a z.0, b z.1, c y.1, d x.1)
