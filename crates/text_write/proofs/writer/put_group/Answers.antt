-- The characters of the group that was moved up begin with its text: `moved_is`.
use mathlib.Core.Path.{◌≡◌, refl, ap, ◌∙◌}
use mathlib.Core.List.{List, [], ◌∷◌, ◌++◌, append_assoc}
use Prim.Native.Nat.{ℕ, ◌+◌, ◌-◌, ◌*◌, ◌^◌, ◌/◌, ◌%◌, ◌≤◌}
use native.Mathlib.Omega.{arith}
use lib.ListN.{length, take}
use Rattle.text_write.specs.Writing.{group_text}
use Rattle.text_write.specs.WriterSteps.{unpacked}
use Rattle.text_write.specs.theory.Stores.{fill_more, filled_less, kept_stored}
use Rattle.text_write.specs.theory.Digits.{text_length, four, moved, moved_is, unpacked_hex}
use Rattle.text_write.proofs.writer.put_group.Goals as goal
use Rattle.text_write.proofs.writer.put_group.Goals.{After-put_four}

-- one to four digits
count : (g n : ℕ) → n ≡ length (group_text g) → (1 ≤ n) × (n ≤ 4)
count g n e = rw e (text_length g)

-- the text ends with the group's
put : (c : After-put_four) →
    let a = c.args in
    take (a.at + c.digit_count-n.result) c.put_four.new.text ≡ take a.at a.text.now ++ group_text a.group
put c =
    let o = c.args.text.now in
    let n = c.digit_count-n.result in
    let g = c.args.group in
    let m = moved g n in
    let is = moved_is g n (omega arith) c.digit_count-n.ensures in
    let small = is.0 in
    let e : g * 2 ^ (16 - 4 * n) % 65536 ≡ m = omega arith in
    let u : unpacked c.characters.result ≡ four m =
    ap unpacked (rw e at c.characters.ensures)
    ∙ unpacked_hex (m / 4096) (m / 256 % 16) (m / 16 % 16) (m % 16) (omega arith) (omega arith) (omega arith) (omega arith)
    in
    filled_less o c.put_four.new.text (unpacked c.characters.result) c.args.at n 4 (omega (arith, c.requires)) (count c.args.group c.digit_count-n.result c.digit_count-n.ensures).1 (rw c.from.ensures at c.put_four.ensures.is)
    ∙ ap (λ (l : List ℕ). take c.args.at o ++ take n l) u
    ∙ ap (λ (l : List ℕ). take c.args.at o ++ l) is.1

pub overflow_mul-n : goal.overflow_mul-n
overflow_mul-n c = omega (arith, count c.args.group c.digit_count-n.result c.digit_count-n.ensures)

pub overflow_sub-n : goal.overflow_sub-n
overflow_sub-n c = omega (arith, count c.args.group c.digit_count-n.result c.digit_count-n.ensures)

pub overflow_shl-group : goal.overflow_shl-group
overflow_shl-group c = omega (arith, count c.args.group c.digit_count-n.result c.digit_count-n.ensures)

pub bounds-text-end : goal.bounds-text-end
bounds-text-end c =
    omega (arith, count c.args.group c.digit_count-n.result c.digit_count-n.ensures, c.put_four.auto.text, c.requires)

pub returns : goal.returns
returns c =
    let a = c.args in
    let n = c.digit_count-n.result in
    record {
      within = omega (arith, count c.args.group c.digit_count-n.result c.digit_count-n.ensures);
      is =
          fill_more c.put_four.new.text (take a.at a.text.now ++ group_text a.group) (a.at + n) (a.at + n + 1) 58 (put (goal.at.returns c).After-put_four) refl
          (omega (arith, count c.args.group c.digit_count-n.result c.digit_count-n.ensures, c.put_four.auto.text, c.requires))
          ∙ append_assoc (take a.at a.text.now) (group_text a.group) (58 ∷ []);
      kept =
          kept_stored a.text.now c.put_four.new.text (a.at + 4) (a.at + 5) (a.at + n) 58 (omega arith) (omega (arith, count c.args.group c.digit_count-n.result c.digit_count-n.ensures)) c.put_four.ensures.kept;
    }
