-- A text as a whole: if it is dotted it is the mapped address that ends in it, and else it is read by its colons.
use Rattle.std.specs.Prelude.{Ok}
use Prim.Native.Nat.{ℕ, ◌+◌, ◌*◌}
use native.Mathlib.Omega.{arith}
use mathlib.Core.Path.{◌≡◌, refl, sym, ap, ◌∙◌}
use mathlib.Core.List.{List}
use mathlib.Core.Option.{Option, none, some}
use Rattle.keys.specs.Key.{key_of}
use Rattle.text_read.specs.Reading.{dotted, whole, parted, cut, groups_of_colons, mapped, first_of, groups_of, joined}
use Rattle.text_read.specs.Grammar.{Dotted, four, bare}
use Rattle.text_read.specs.Answers.{keyed, reading_of}
use Rattle.text_read.specs.ReaderSteps.{to_end, head_answer}
use Rattle.text_read.proofs.Grammar.{spells_read, dotted_whole}
use Rattle.text_read.specs.theory.Dotted.{read_dotted}

-- a dotted text: its two groups, behind six with the number ffff
pub reading_bare : {s l : List ℕ} → Dotted s l → reading_of s ≡ head_answer s (to_end 65535 6 (some l))
unfolding reading_of keyed to_end joined
reading_bare (four {a = a} {b = b} {c = c} {d = d} p q r w) =
    let n : ℕ = (65535 * 65536 + (a * 256 + b)) * 65536 + (c * 256 + d) in
    rw (spells_read (bare (four p q r w))) (ap (λ (m : ℕ). Ok (key_of m)) (omega arith))

first_none : (o : Option (List ℕ)) → first_of o (mapped none) ≡ o
unfolding first_of mapped
first_none none = refl
first_none (some l) = refl

pub reading_colons : (s : List ℕ) → dotted s ≡ none → reading_of s ≡ keyed (groups_of_colons s)
unfolding reading_of groups_of
reading_colons s d = rw d (ap keyed (first_none (groups_of_colons s)))

-- a text with "::" is not dotted
pub cut_undotted : (s l r : List ℕ) → cut s ≡ parted l r → dotted s ≡ none
cut_undotted s l r c = go (dotted s) refl
  where
    go : (o : Option (List ℕ)) → dotted s ≡ o → o ≡ none
    go none d = refl
    go (some m) d = let e : whole ≡ parted l r = sym (dotted_whole (read_dotted s m d)) ∙ c in let z : ◌≡◌ {A = ℕ} 0 1 = cc in absurd (omega arith)
