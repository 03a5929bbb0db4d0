-- Few bits are one field. More are the last bits of the first byte, whole bytes, and the first bits of the last byte.
use mathlib.Core.Path.{◌≡◌, ap, ◌∙◌}
use mathlib.Core.List.{◌++◌}
use Prim.Native.Nat.{ℕ, ◌+◌, ◌-◌, ◌*◌, ◌/◌, ◌%◌}
use native.Mathlib.Omega.{arith}
use lib.ListN.{length, take, drop, set, length-set}
use Rattle.bits.specs.Bytes.{Bytes}
use Rattle.bits.specs.Put.{put_field}
use Rattle.bits.specs.theory.Puts.{put_bytes, put_length}
use Rattle.bits.specs.theory.Zeros.{zeros_put}
use Rattle.table_store.specs.theory.StoreLaws.{clear_first, clear_last, clear_more}
use Rattle.table_store.proofs.zeros.clear.Goals as goal
use Rattle.table_store.proofs.zeros.clear.Goals.{After-zero_bytes}

begun_is : (c : After-zero_bytes) → let a = c.args in (let a = c.args in set a.t.now (a.off / 8) c.first_bits.result) ≡ put_field a.t.now a.off (8 - a.off % 8) 0
begun_is c = let a = c.args in clear_first a.t.now a.off _ (omega arith) c.first_bits.ensures

begun_bytes : (c : After-zero_bytes) → Bytes ((let a = c.args in set a.t.now (a.off / 8) c.first_bits.result))
begun_bytes c =
    let a = c.args in
    let b : Bytes a.t.now = λ j. omega (arith, c.slice_known-1.given j) in
    rw (begun_is c) (put_bytes a.t.now a.off (8 - a.off % 8) 0 b)

most_is : (c : After-zero_bytes) → let a = c.args in (let s = (let a = c.args in set a.t.now (a.off / 8) c.first_bits.result) in
    let a = c.args in
    let i = a.off / 8 + 1 in
    take i s ++ (c.zero_bytes.new.s ++ drop ((a.off + a.n) / 8 - i) (drop i s))) ≡ put_field a.t.now a.off (8 * ((a.off + a.n) / 8) - a.off) 0
most_is c =
    let a = c.args in
    let s = (let a = c.args in set a.t.now (a.off / 8) c.first_bits.result) in
    let i = a.off / 8 + 1 in
    let l : length s ≡ length a.t.now = length-set a.t.now (a.off / 8) c.first_bits.result in
    clear_more a.t.now _ _ a.off (8 - a.off % 8) (8 * (a.off / 8 + 1)) (8 * ((a.off + a.n) / 8 - (a.off / 8 + 1))) (8 * ((a.off + a.n) / 8) - a.off)
    (omega arith) (omega arith) (begun_is c)
    (zeros_put s c.zero_bytes.new.s i ((a.off + a.n) / 8 - i) (begun_bytes c) (omega (arith, l)) c.zero_bytes.ensures)

long : (c : After-zero_bytes) → length ((let s = (let a = c.args in set a.t.now (a.off / 8) c.first_bits.result) in
    let a = c.args in
    let i = a.off / 8 + 1 in
    take i s ++ (c.zero_bytes.new.s ++ drop ((a.off + a.n) / 8 - i) (drop i s)))) ≡ length c.args.t.now
long c = let a = c.args in ap length (most_is c) ∙ put_length a.t.now a.off (8 * ((a.off + a.n) / 8) - a.off) 0

pub returns-then-k-gt0 : goal.returns-then-k-gt0
returns-then-k-gt0 c =
    let a = c.args in
    clear_more a.t.now _ _ a.off _ (8 * ((a.off + a.n) / 8)) ((a.off + a.n) % 8) a.n (omega arith) (omega arith) (most_is (goal.at.returns-then-k-gt0 c).After-zero_bytes)
    (clear_last ((let s = (let a = c.args in set a.t.now (a.off / 8) c.first_bits.result) in
    let a = c.args in
    let i = a.off / 8 + 1 in
    take i s ++ (c.zero_bytes.new.s ++ drop ((a.off + a.n) / 8 - i) (drop i s)))) ((a.off + a.n) / 8) ((a.off + a.n) % 8) _ (omega (arith, long (goal.at.returns-then-k-gt0 c).After-zero_bytes)) (omega arith) c.last_bits.ensures)

pub returns-else-k-gt0 : goal.returns-else-k-gt0
returns-else-k-gt0 c =
    let a = c.args in
    let e : 8 * ((a.off + a.n) / 8) - a.off ≡ a.n = omega arith in
    most_is (goal.at.returns-else-k-gt0 c).After-zero_bytes ∙ ap (λ (m : ℕ). put_field a.t.now a.off m 0) e
