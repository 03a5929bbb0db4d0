-- Groups joined into one number: each is below 65,536, and so n of them are below 65,536 ^ n.
use Rattle.std.specs.Prelude.{◌≡◌, refl, List, [], ◌∷◌, ◌++◌, ℕ, suc, ◌+◌, ◌*◌, ◌^◌, ◌<◌, length}
use Rattle.std.proofs.Common.{add-zero, pow-suc, add-one, arith}
use Rattle.std.proofs.Math.Arith.{digits_lt}
use Rattle.text_read.specs.Reading.{joined}

-- a digit more
pub digit_more : (b n v k : ℕ) → v < b ^ n → k < b → v * b + k < b ^ (n + 1)
digit_more b n v k h l = rw (add-one, pow-suc) (digits_lt h l)

-- each group is below 65,536
abbrev pub Small : List ℕ → Type 0
Small [] = Unit {0}
Small (g ∷ l) = (g < 65536) × Small l

pub joined_lt : (l : List ℕ) (n v : ℕ) → Small l → v < 65536 ^ n → joined v l < 65536 ^ (n + length l)
unfolding joined
joined_lt [] n v k h = rw (add-zero n) h
joined_lt (g ∷ l) n v k h =
    let e : n + suc (length l) ≡ n + 1 + length l = omega arith in
    rw e (joined_lt l (n + 1) (v * 65536 + g) k.1 (digit_more 65536 n v g h k.0))

pub joined_append : (v : ℕ) (a b : List ℕ) → joined v (a ++ b) ≡ joined (joined v a) b
unfolding joined
joined_append v [] b = refl
joined_append v (g ∷ a) b = joined_append (v * 65536 + g) a b
