-- What the answers of make and check tell of settings and bytes.
use Rattle.std.proofs.Math.Path.{◌≡◌}
use Rattle.std.specs.Prelude.{true, cond, not, ℕ, ◌≤◌, length, leb, Bool, Err, Ok, false, ⊤}
use mathlib.Core.List.{List, [], ◌∷◌}
use Rattle.std.proofs.Common.{arith, leb-true}
use Rattle.laws.specs.Cases.{cases}
use Rattle.settings.specs.declared.settings.Settings.{Settings}
use Rattle.settings.specs.declared.refusal.Refusal.TheVariants as refusal
use Rattle.settings.specs.Sizes.{table_bytes}
use Rattle.settings.specs.Legal.{Legal}
use Rattle.settings.specs.Layout.{layout_of}
use Rattle.settings.specs.Due.{Due, due, settings_due, short_due}
use Rattle.settings.specs.Reply.{Reply, reply}
use Rattle.settings.specs.theory.Dues.{NoneDue, by_dues, passed}
use Rattle.settings.specs.theory.Legal.{legal_means}
use Rattle.table.specs.New.{new_bytes}
use Rattle.table.specs.Calls.{make_call, check_call}
use Rattle.table.specs.Check.{table_sound, mark_bytes, marks_after}
use Rattle.std.specs.declared.result.Result.{Result}
use Rattle.settings.specs.declared.refusal.Refusal.{Refusal}

module _ (s : Settings) (t : List ℕ) where
  -- refusals 1 and 2 are not due
  pub record Opened : Type 0 where
    pub right : Legal s
    pub room : table_bytes s ≤ length t

  opened : (ds : List Due) → NoneDue (settings_due s ∷ short_due s (length t) ∷ ds) → Opened
  opened ds d = record { right = legal_means s (passed d.0); room = leb-true (table_bytes s) (length t) (passed d.1.0) }

  pub made_opened : (make_call s t).answer ≡ (Ok tt) → Opened
  unfolding make_call
  made_opened =
      by_dues (λ choose.
      (choose (Reply (Result ⊤ Refusal)) (λ why. reply (Err why) t) (reply (Ok tt) (new_bytes (layout_of s) t))).answer ≡ (Ok tt) → Opened)
      (settings_due s ∷ short_due s (length t) ∷ [])
      (λ why e. absurd (let z : ◌≡◌ {A = ℕ} 0 1 = cc in omega arith))
      (λ d e. opened [] d)

  pub sound_opened : (m : List ℕ) → (check_call s t m).answer ≡ Ok true → Opened × (table_sound (layout_of s) t ≡ true)
  unfolding check_call
  sound_opened m =
      let marks : Due = due (not (leb (mark_bytes (layout_of s)) (length m))) refusal.Marks in
      let on : Reply (Result Bool Refusal) = reply (Ok (table_sound (layout_of s) t)) (marks_after (layout_of s) m) in
      by_dues (λ choose.
      (choose (Reply (Result Bool Refusal)) (λ why. reply (Err why) m) on).answer ≡ Ok true
      → Opened × (table_sound (layout_of s) t ≡ true))
      (settings_due s ∷ short_due s (length t) ∷ marks ∷ [])
      (λ why e. absurd (let z : ◌≡◌ {A = ℕ} 0 1 = cc in omega arith))
      (λ d e. (
        opened (marks ∷ []) d,
        let q : table_sound (layout_of s) t ≡ true = cc in q,
      ))
