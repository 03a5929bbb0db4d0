-- What a label is.
use Rattle.std.specs.Prelude.{◌≡◌, true, ◌&&◌, List, ℕ, ◌≤◌, length, leb}
use Rattle.std.proofs.Math.Option.{some}
use Rattle.std.proofs.Common.{leb-true}
use Rattle.laws.specs.Cases.{both_true}
use Rattle.laws.specs.Options.{when_some}
use Rattle.text_read.specs.Numerals.{digits, number, no_leading_zero}
use Rattle.program_commands.specs.Command.{label_of}

-- what it tells that y is read as v
pub record Label (y : List ℕ) (v : ℕ) : Type 0 where
  pub ten : digits 10 y ≡ true
  pub high : length y ≤ 3
  pub value : number 10 0 y ≡ v

pub label_means : (y : List ℕ) (v : ℕ) → label_of y ≡ some v → Label y v
unfolding label_of
label_means y v e =
    let p = when_some (digits 10 y && leb 1 (length y) && leb (length y) 3 && no_leading_zero y) (number 10 0 y) v e in
    let q = both_true (digits 10 y && leb 1 (length y) && leb (length y) 3) (no_leading_zero y) p.0 in
    let r = both_true (digits 10 y && leb 1 (length y)) (leb (length y) 3) q.0 in
    let t = both_true (digits 10 y) (leb 1 (length y)) r.0 in
    record { ten = t.0; high = leb-true (length y) 3 r.1; value = p.1 }
