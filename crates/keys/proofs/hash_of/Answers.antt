-- The low bits of what `remainder` ensures; a and b are below a prime of at most 65,537.
use mathlib.Core.Path.{◌≡◌, sym, ap, ap₂, ◌∙◌}
use Prim.Native.Nat.{ℕ, ◌+◌, ◌-◌, ◌*◌, ◌%◌, ◌^◌}
use native.Mathlib.Omega.{arith}
use lib.Pow.{pow_pos}
use Rattle.settings.specs.Prime.{prime_above}
use Rattle.keys.specs.theory.Halves.{mod_high}
use Rattle.settings.specs.theory.Primes.{prime_high}
use Rattle.keys.proofs.hash_of.Goals as goal

pub remainder-requires : goal.remainder-requires
remainder-requires c =
    let bound = prime_high c.args.bii c.requires.0 in
    (c.requires.0, omega arith, omega arith)

pub nonzero_rem-result : goal.nonzero_rem-result
nonzero_rem-result c = omega (arith, pow_pos c.args.bii)

pub returns : goal.returns
returns c =
    let a = c.args in
    let e : 128 - a.bii - 64 ≡ 64 - a.bii = omega arith in
    let cut = mod_high a.high {n = 128 - a.bii} (omega arith) (omega arith) ∙ ap (λ (n : ℕ). a.high % 2 ^ n * 2 ^ 64 + a.low) e in
    ap₂ ◌%◌ (c.remainder.ensures ∙ ap (λ (x : ℕ). (a.a * x + a.b) % prime_above a.bii) (sym cut)) c.pow.ensures
