-- The windows lie within the block (`words_within`, `tails_within`), and a slot that holds the number has its window (`by_window`).
use Rattle.std.proofs.Common.{rules}
use Rattle.std.proofs.iter.Serving.{serving}
use mathlib.Core.Path.{ap, ◌∙◌}
use Prim.Native.Nat.{ℕ, ◌+◌, ◌-◌, ◌*◌, ◌/◌, ◌%◌, ◌^◌, ◌<◌}
use native.Mathlib.Omega.{arith}
use native.Mathlib.Nat.{mod-lt}
use lib.Pow.{pow_pos, mod-mod-pow}
use Rattle.bits.specs.Word.{swapped}
use Rattle.bits.specs.theory.Words.{swapped_twice}
use Rattle.table_read.proofs.WindowLaws.{by_window, word_at, words_within, last_of, all_of, swapped_four}
use Rattle.table_read.proofs.windows.candidate.Goals as goal

pub first_or_next-requires : goal.first_or_next-requires
first_or_next-requires c =
    let w = words_within _ _ _ _ _ c.requires.0 ((c.args.start + 7) / 8) 8 (c.args.slot / 8) (omega arith) (omega arith) (omega arith) in
    grind serving

pub returns-then-o-bie : goal.returns-then-o-bie
returns-then-o-bie c =
    let i : ℕ = (c.args.start + 7) / 8 in
    let l : c.part_of_two.result < 2 ^ 64 = rw c.part_of_two.ensures (mod-lt _ (pow_pos 64)) in
    by_window _ _ _ _ _ _ _ (λ k. 8 * (i + k * (c.args.slot / 8))) 64 (swapped c.swap_bytes-q.result) (8 * i - c.args.start) (c.args.bie - (8 * i - c.args.start) - 64)
    (word_at _ _ _ _ _ c.requires.0 i (c.args.slot / 8) (omega arith) (omega arith)) (omega arith)
    (ap swapped c.swap_bytes-q.ensures ∙ swapped_twice _ l ∙ c.part_of_two.ensures) c.first_or_next.ensures.high
    (λ k h. let d = c.first_or_next.ensures.before k h in search rules)

pub next-requires : goal.next-requires
next-requires c =
    let w = words_within _ _ _ _ _ c.requires.0 ((c.args.start + 7) / 8) 4 (c.args.slot / 8) (omega arith) (omega arith) (omega arith) in
    grind serving

pub returns-then-o-bie-2 : goal.returns-then-o-bie-2
returns-then-o-bie-2 c =
    let i : ℕ = (c.args.start + 7) / 8 in
    by_window _ _ _ _ _ _ _ (λ k. 8 * (i + k * (c.args.slot / 8))) 32 (swapped (c.swap_bytes.result / 4294967296 * 2 ^ 32)) (8 * i - c.args.start) (c.args.bie - (8 * i - c.args.start) - 32)
    (word_at _ _ _ _ _ c.requires.0 i (c.args.slot / 8) (omega arith) (omega arith)) (omega arith)
    (ap (λ (x : ℕ). swapped (x / 4294967296 * 2 ^ 32)) c.swap_bytes.ensures
    ∙ swapped_four c.part_of_two-then-o-bie-2.result
    ∙ ap (λ (x : ℕ). x % 2 ^ 32) c.part_of_two-then-o-bie-2.ensures
    ∙ mod-mod-pow _ 32 32)
    c.next.ensures.high
    (λ k h. let d = c.next.ensures.before k h in search rules)

pub returns-then-bie-ge57 : goal.returns-then-bie-ge57
returns-then-bie-ge57 c =
    by_window _ _ _ _ _ _ _ (λ k. c.args.start + (c.args.bie - 57) + k * c.args.slot) 57 _ (c.args.bie - 57) 0 (λ k. omega arith) (omega arith)
    (last_of c.args.high c.args.low (omega arith)) c.first_or_next-then-bie-ge57.ensures.high
    (λ k h. let d = c.first_or_next-then-bie-ge57.ensures.before k h in search rules)

pub returns : goal.returns
returns c =
    by_window _ _ _ _ _ _ _ (λ k. c.args.start + k * c.args.slot) c.args.bie _ 0 0 (λ k. omega arith) (omega arith)
    (all_of c.args.high c.args.low c.args.bie (omega arith) c.requires.1) c.first_or_next-2.ensures.high
    (λ k h. let d = c.first_or_next-2.ensures.before k h in search rules)
