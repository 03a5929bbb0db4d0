-- What it tells that an answer is there.
use Rattle.std.specs.Prelude.{◌≡◌, refl, Bool, true, false, cond}
use Rattle.std.proofs.Math.Option.{none, some, none-ne-some}

-- nothing is no answer
pub nothing : {A B : Type 0} {v : A} → none ≡ some v → B
nothing {v = v} e = absurd (none-ne-some v e)

-- an answer under a test: the test is passed, and that is the answer
pub when_some : {A : Type 0} (t : Bool) (x v : A) → cond t (some x) none ≡ some v → (t ≡ true) × (x ≡ v)
when_some true x v e = (refl, cc)
when_some false x v e = nothing e
