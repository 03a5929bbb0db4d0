-- Each of the two is what `below` ensures, and p is above 2 ^ bii.
use Rattle.std.proofs.Common.{◌≡◌, ℕ, ◌≤◌, Bool, ◌&&◌, ltb, leb, sym, arith}
use mathlib.Core.Bool.{and_assoc}
use Rattle.settings.specs.Prime.{prime_above}
use Rattle.settings.specs.Legal.{below_prime}
use Rattle.settings.specs.theory.Primes.{prime_above_lem}
use Rattle.settings.specs.declared.settings.Settings.{Settings}
use Rattle.settings.proofs.settings.Settings.below_prime.Goals as goal
use Rattle.settings.proofs.settings.Settings.below_prime.Goals.{After-lists_of-p}

positive : (c : After-lists_of-p) → 1 ≤ c.lists_of-p.result.1
positive c = omega (arith, c.lists_of-p.ensures.1, prime_above_lem c.args.self.bii)

pub below-requires : goal.below-requires
below-requires c = positive (goal.at.below-requires c).After-lists_of-p

pub below-requires-2 : goal.below-requires-2
below-requires-2 c = positive (goal.at.below-requires-2 c).After-lists_of-p

both : (s : Settings) {p : ℕ} {x y : Bool} → p ≡ prime_above s.bii → x ≡ (leb 1 s.a && ltb s.a p)
    → y ≡ (leb 1 s.b && ltb s.b p) → (x && y) ≡ below_prime s
unfolding below_prime
both s e f g =
    let p = prime_above s.bii in
    rw (f, g, e) (sym (and_assoc (leb 1 s.a && ltb s.a p) (leb 1 s.b) (ltb s.b p)))

pub returns : goal.returns
returns c =
    both c.args.self c.lists_of-p.ensures.1 c.below.ensures c.below-2.ensures
