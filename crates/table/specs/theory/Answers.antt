-- What find, enter, relabel and delete say has one word, label and number each.
use Rattle.std.proofs.Common.{◌≡◌, ℕ, ap}
use Rattle.table.specs.Answer.{said}
use Rattle.table.specs.declared.answers.Word.{Word}
use Rattle.table.specs.declared.answers.Said.{Said}

pub record Same (w w' : Word) (l l' n n' x x' : ℕ) : Type 0 where
  pub word : w ≡ w'
  pub label : l ≡ l'
  pub compared : n ≡ n'
  pub slot : x ≡ x'

pub said_same : {w w' : Word} {l l' n n' x x' : ℕ} → said w l n x ≡ said w' l' n' x' → Same w w' l l' n n' x x'
said_same {w = w} {w' = w'} {l = l} {l' = l'} {n = n} {n' = n'} {x = x} {x' = x'} q =
    let p : ◌≡◌ {A = Said} (record { label = l; word = w; compared = n; slot = x }) (record { label = l'; word = w'; compared = n'; slot = x' }) = cc in
    record {
      word = ap (λ (r : Said). r.word) p;
      label = ap (λ (r : Said). r.label) p;
      compared = ap (λ (r : Said). r.compared) p;
      slot = ap (λ (r : Said). r.slot) p;
    }
