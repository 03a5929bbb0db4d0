-- Index and entry are the bits above and below bit bie, and each call's promise says the rest.
use mathlib.Core.Path.{ap, ap₂, ◌∙◌}
use Prim.Native.Nat.{◌+◌, ◌-◌, ◌≤◌}
use native.Mathlib.Nat.{lt_of_lt_of_le}
use native.Mathlib.Omega.{arith}
use lib.Bits.{bit_xor}
use lib.Pow.{pow_mono}
use Rattle.keys.specs.Key.{key_number, index, entry, hash, list_number, place_of}
use Rattle.keys.specs.theory.Keys.{number_key}
use Rattle.keys.proofs.Key.place.Goals as goal

pub high_bits-requires : goal.high_bits-requires
high_bits-requires c =
    let wide : c.args.s.w ≤ 16 + (c.args.s.w - c.args.s.bii) = omega arith in
    (omega arith, omega arith, lt_of_lt_of_le c.requires.1 (pow_mono wide))

pub hash-requires : goal.hash-requires
hash-requires c = (c.requires.0, ap key_number c.low_bits-entry.ensures ∙ number_key _)

pub returns : goal.returns
unfolding key_number index entry hash list_number place_of
returns c =
    let s = c.args.s in
    let stored = c.low_bits-entry.ensures in
    let hashed = c.hash.ensures ∙ ap (hash s) (ap key_number stored ∙ number_key _) in
    let list = ap₂ bit_xor c.high_bits.ensures hashed in
    λ i. record { list = record { 0 = list i }; entry = stored i }
