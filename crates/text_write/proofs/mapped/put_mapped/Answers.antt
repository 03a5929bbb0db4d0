-- One decimal before the other, and the prefix before them.
use mathlib.Core.Path.{◌≡◌, refl, sym}
use mathlib.Core.List.{[], ◌∷◌, ◌++◌, append_assoc}
use Prim.Native.Nat.{ℕ, ◌/◌, ◌%◌, ◌^◌}
use Rattle.text_write.specs.Ascii.{ascii}
use Rattle.text_write.specs.Decimal.{decimal_text}
use Rattle.text_write.specs.Writing.{dotted_text, mapped_text}
use Rattle.text_write.proofs.Backwards.{four_back, front_back, ends_size}
use Rattle.text_write.proofs.mapped.put_mapped.Goals as goal

pub returns : goal.returns
unfolding ascii
returns c =
    let x : ℕ = c.args.low % 2 ^ 32 in
    let e = c.requires.0 in
    let size = ends_size e in
    let back =
    four_back (decimal_text (x / 16777216)) (decimal_text (x / 65536 % 256)) (decimal_text (x / 256 % 256)) (decimal_text (x % 256)) _ _ _
    (rw c.last_four-x.ensures at c.put_decimal.ensures) (rw c.last_four-x.ensures at c.put_with_dot.ensures)
    (rw c.last_four-x.ensures at c.put_with_dot-2.ensures) (rw c.last_four-x.ensures at c.put_with_dot-3.ensures) e.second e.third e.last
    in
    (front_back back c.put_prefix.ensures refl (whole c.args.low) (sym size), size)
  where
    whole : (low : ℕ) →
        let x = low % 2 ^ 32 in
        ascii "::ffff:" ++ ((decimal_text (x / 16777216) ++ 46 ∷ []) ++ ((decimal_text (x / 65536 % 256) ++ 46 ∷ []) ++ ((decimal_text (x / 256 % 256) ++ 46 ∷ []) ++ decimal_text (x % 256)))) ≡ mapped_text low
    whole low = unfold mapped_text dotted_text in simp append_assoc
