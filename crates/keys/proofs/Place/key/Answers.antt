-- The xor with the hash gives the index back, and a rebuilt key is below 2 ^ w.
use mathlib.Core.Path.{◌≡◌, ap, ◌∙◌}
use Prim.Native.Nat.{ℕ, ◌+◌, ◌*◌, ◌^◌}
use native.Mathlib.Nat.{lt_of_lt_of_le}
use native.Mathlib.Omega.{arith}
use lib.Bits.{bit_xor}
use lib.Pow.{pow_mono}
use Rattle.settings.specs.Sizes.{bie}
use Rattle.keys.specs.Key.{key_number, key_of, hash, rebuilt}
use Rattle.keys.specs.theory.Keys.{entry_whole, rebuilt_below}
use Rattle.keys.proofs.Place.key.Goals as goal
use Rattle.keys.proofs.Place.key.Goals.{After-hash_of}

-- the hash is that of the entry, which is cut nowhere
hashed : (c : After-hash_of) → let a = c.args in c.hash_of.result ≡ hash a.s (key_number a.self.entry)
unfolding key_number hash
hashed c =
    c.hash_of.ensures ∙ ap (hash c.args.s) (entry_whole c.requires.0 c.requires.2)

pub with_top-requires : goal.with_top-requires
unfolding key_number hash rebuilt
with_top-requires c =
    let pre = c.requires in
    let below = lt_of_lt_of_le (rebuilt_below pre.0 pre.1 pre.2) (pow_mono pre.0.ranges.w_high) in
    (omega arith, omega arith, pre.2, rw (hashed (goal.at.with_top-requires c).After-hash_of) below)

pub returns : goal.returns
unfolding key_number hash rebuilt
returns c =
    let a = c.args in
    c.with_top.ensures
    ∙ ap (λ (x : ℕ). key_of (bit_xor a.self.list.0 x * 2 ^ bie a.s + key_number a.self.entry))
    (hashed (goal.at.returns c).After-hash_of)
