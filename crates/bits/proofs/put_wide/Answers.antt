-- Up to 64 bits the high half is 0. Of more, the first word is filled (`part_of_two`), and the rest follows: in one field (`put_two`),
-- or in a word and the first bits of the byte behind it (`put_three`).
use Prim.Native.Nat.{ℕ, ◌+◌, ◌-◌, ◌*◌, ◌/◌, ◌%◌, ◌^◌, ◌≤◌, ◌<◌}
use mathlib.Core.Path.{◌≡◌, sym, ap, ◌∙◌}
use native.Mathlib.Nat.{div-one, mod-lt, mod-eq_of_lt, lt_of_lt_of_le}
use native.Mathlib.Omega.{arith}
use lib.Pow.{pow_pos, pow_mono, shr_lt}
use Rattle.bits.specs.Put.{put_field}
use Rattle.bits.specs.theory.Numbers.{low_two, no_high}
use Rattle.bits.specs.theory.Words.{put_two, put_three}
use Rattle.bits.proofs.put_wide.Goals as goal
use Rattle.bits.proofs.put_wide.Goals.{After-part_of_two, Start}

-- up to 64 bits the high half is 0
small : (s : Start) → s.args.n ≤ 64 → s.args.high ≡ 0
small s h = no_high s.args.high s.args.low (2 ^ s.args.n) s.requires.3 (pow_mono h)

pub returns-then-n-le64 : goal.returns-then-n-le64
returns-then-n-le64 c =
    let z : c.args.high ≡ 0 = small (goal.at.returns-then-n-le64 c).Start (omega arith) in
    c.put.ensures ∙ ap (put_field c.args.s.now c.args.off c.args.n) (omega arith)

first_fits : (c : After-part_of_two) →
    (c.args.high * 2 ^ 64 + c.args.low) / 2 ^ (c.args.n + c.args.off % 8 - 64) < 2 ^ (64 - c.args.off % 8)
first_fits c =
    let e : 64 - c.args.off % 8 + (c.args.n + c.args.off % 8 - 64) ≡ c.args.n = omega arith in
    shr_lt (64 - c.args.off % 8) ((c.args.n + c.args.off % 8 - 64)) (rw e c.requires.3)

first_is : (c : After-part_of_two) →
    c.part_of_two.result ≡ (c.args.high * 2 ^ 64 + c.args.low) / 2 ^ (c.args.n + c.args.off % 8 - 64)
first_is c = c.part_of_two.ensures ∙ mod-eq_of_lt (lt_of_lt_of_le (first_fits c) (pow_mono {j = 64} (omega arith)))

pub put-requires-2 : goal.put-requires-2
put-requires-2 c = (omega arith, omega arith, omega arith, rw (first_is (goal.at.put-requires-2 c).After-part_of_two) (first_fits (goal.at.put-requires-2 c).After-part_of_two))

pub put-requires-then-r-le64 : goal.put-requires-then-r-le64
put-requires-then-r-le64 c = record { within = record { ends = omega arith; width = omega arith }; v_bound = rw c.part.ensures (mod-lt _ (pow_pos _)) }

pub returns-then-r-le64 : goal.returns-then-r-le64
returns-then-r-le64 c =
    let l : c.args.low % 2 ^ (c.args.n + c.args.off % 8 - 64) ≡ (c.args.high * 2 ^ 64 + c.args.low) % 2 ^ (c.args.n + c.args.off % 8 - 64) = sym (low_two c.args.high c.args.low ((c.args.n + c.args.off % 8 - 64)) 64 (omega arith) (omega arith)) in
    c.put-then-r-le64.ensures
    ∙ rw (c.part.ensures, div-one, l, c.put-2.ensures, first_is (goal.at.returns-then-r-le64 c).After-part_of_two)
    (put_two c.args.s.now _ _ _ _ c.args.off c.args.n ((c.args.high * 2 ^ 64 + c.args.low)) (omega arith) (omega arith) (omega arith))

pub nonzero_rem-low : goal.nonzero_rem-low
nonzero_rem-low c = rw c.pow.ensures (pow_pos _)

pub put-requires-4 : goal.put-requires-4
put-requires-4 c = (omega arith, omega arith, omega arith, rw c.pow.ensures (mod-lt _ (pow_pos _)))

pub returns : goal.returns
returns c =
    let b : ℕ = (c.args.n + c.args.off % 8 - 64) - 64 in
    let l : c.args.low % 2 ^ b ≡ (c.args.high * 2 ^ 64 + c.args.low) % 2 ^ b = sym (low_two c.args.high c.args.low b 64 (omega arith) (omega arith)) in
    c.put-4.ensures
    ∙ rw (c.pow.ensures, l, c.put-3.ensures, c.across.ensures, c.put-2.ensures, first_is (goal.at.returns c).After-part_of_two)
    (put_three c.args.s.now _ _ _ _ _ _ _ c.args.off c.args.n ((c.args.high * 2 ^ 64 + c.args.low)) (omega arith) (omega arith) (omega arith) (omega arith) (omega arith))
