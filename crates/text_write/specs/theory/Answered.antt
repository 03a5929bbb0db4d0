-- What writing comes to, by whether the text fits.
use Rattle.std.proofs.Math.Path.{◌≡◌, refl, ap}
use Rattle.std.proofs.Common.{◌∙◌, arith}
use Rattle.std.specs.Prelude.{Ok, Err, List, ◌++◌, ℕ, ◌≤◌, ◌<◌, leb}
use Rattle.std.proofs.Math.ListN.{length, drop}
use borrow.Author.Tests.{le-leb, lt-leb, leb-true}
use Rattle.laws.specs.Cases.{cases}
use Rattle.keys.specs.declared.Key.{Key}
use Rattle.settings.specs.declared.refusal.Refusal.TheVariants as refusal
use Rattle.settings.specs.Reply.{Gives}
use Rattle.text_write.specs.Writing.{written}
use Rattle.text_write.specs.Answers.{write_call}

module _ (k : Key) (b : List ℕ) where
  abbrev text : List ℕ
  text = written k.high k.low

  pub too_long : length b < length text → Gives (write_call k b) (Err refusal.Output) b
  unfolding write_call
  too_long h = rw (lt-leb (length text) (length b) h) (record { answer = refl; bytes = refl })

  -- n bytes are written, before those that stay
  pub fits : (n : ℕ) (u : List ℕ) → n ≡ length text → u ≡ text ++ drop n b → n ≤ length b → Gives (write_call k b) (Ok n) u
  unfolding write_call
  fits n u e eu h =
      rw (le-leb (length text) (length b) (omega arith))
      (record { answer = ap Ok e; bytes = eu ∙ ap (λ (m : ℕ). text ++ drop m b) e })

  -- a text that was written fits the lent bytes
  pub length_fits : (n : ℕ) → (write_call k b).answer ≡ Ok n → n ≤ length b
  unfolding write_call
  length_fits n =
      cases (leb (length text) (length b))
      (λ h. rw h (λ e. let z : length text ≡ n = cc in omega (arith, leb-true (length text) (length b) h)))
      (λ h. rw h (λ e. let z : ◌≡◌ {A = ℕ} 0 1 = cc in absurd (omega arith)))
