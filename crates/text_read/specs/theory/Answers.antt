-- A text is read as a key, or refused with 4.
use Rattle.std.specs.Prelude.{◌≡◌, refl, List, ℕ, Result, Ok, Err}
use Rattle.std.proofs.Common.{sym, ap, ◌∙◌, arith}
use Rattle.std.proofs.Math.Option.{Option, none, some}
use Rattle.keys.specs.declared.Key.{Key}
use Rattle.settings.specs.declared.refusal.Refusal.{Refusal}
use Rattle.settings.specs.declared.refusal.Refusal.TheVariants as refusal
use Rattle.text_read.specs.Reading.{groups_of}
use Rattle.text_read.specs.Answers.{keyed, reading_of}

pub read_refused : (x : List ℕ) (why : Refusal) → reading_of x ≡ Err why → refusal.Text ≡ why
unfolding reading_of keyed
read_refused x why e = go (groups_of x) e
  where
    go : (o : Option (List ℕ)) → keyed o ≡ Err why → refusal.Text ≡ why
    go none e = cc
    go (some l) e = absurd (let z : ◌≡◌ {A = ℕ} 0 1 = cc in omega arith)

-- a text that no key is read of is refused
pub unread : (x : List ℕ) → ((k : Key) → reading_of x ≡ Ok k → ⊥) → reading_of x ≡ Err refusal.Text
unread x n = go (reading_of x) refl
  where
    go : (p : Result Key Refusal) → reading_of x ≡ p → reading_of x ≡ Err refusal.Text
    go (Ok k) e = absurd (n k e)
    go (Err why) e = e ∙ ap Err (sym (read_refused x why e))
