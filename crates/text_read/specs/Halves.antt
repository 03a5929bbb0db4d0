-- The two halves of the number that groups stand for.
use Rattle.std.specs.Prelude.{◌≡◌, ◌+◌, ◌*◌, ◌/◌, ◌%◌, ◌^◌}
use Rattle.std.proofs.Common.{arith}
use Rattle.text_read.specs.Gathered.{Sized}
use Rattle.text_read.specs.declared.groups.Groups.TheInside.{Inside}

-- the number and the count give the halves back
pub parted_back : (g : Inside) → Sized g.high g.low g.count
    → (let h : Inside = record { high = (g.high * 2 ^ 64 + g.low) / 2 ^ 64; low = (g.high * 2 ^ 64 + g.low) % 2 ^ 64; count = g.count } in h) ≡ g
parted_back g s =
    let p : (g.high * 2 ^ 64 + g.low) / 2 ^ 64 ≡ g.high = omega (arith, s.half) in
    let q : (g.high * 2 ^ 64 + g.low) % 2 ^ 64 ≡ g.low = omega (arith, s.half) in
    rw (p, q)
