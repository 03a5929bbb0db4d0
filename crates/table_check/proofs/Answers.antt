-- What the call comes to behind each of its tests.
use Rattle.std.specs.Prelude.{Err, Ok}
use mathlib.Core.Path.{◌≡◌, refl, sym, ap, subst, ◌∙◌}
use mathlib.Core.Bool.{Bool, true, false, cond}
use mathlib.Core.List.{List}
use Prim.Native.Nat.{ℕ, ◌+◌, ◌/◌, ◌≤◌, ◌<◌}
use lib.ListN.{length}
use borrow.Author.Tests.{le-leb, lt-leb}
use Rattle.settings.specs.declared.layout.Layout.{Layout}
use Rattle.settings.specs.declared.settings.Settings.{Settings}
use Rattle.settings.specs.declared.refusal.Refusal.TheVariants as refusal
use Rattle.settings.specs.Legal.{legal}
use Rattle.settings.specs.Layout.{layout_of}
use Rattle.settings.specs.Reply.{Reply, Gives}
use Rattle.table.specs.Check.{table_sound, mark_bytes, marks_after}
use Rattle.table.specs.Calls.{check_call}
use Rattle.table_check.specs.Answers.{checked_call}
use Rattle.std.specs.declared.result.Result.{Result}
use Rattle.settings.specs.declared.refusal.Refusal.{Refusal}

module _ (g : Layout) (t m : List ℕ) where
  pub checked_short : length t < g.bytes → Gives (checked_call g t m) (Err refusal.Short) m
  unfolding checked_call
  checked_short h = rw (lt-leb g.bytes (length t) h) (record { answer = refl; bytes = refl })

  pub checked_few : g.bytes ≤ length t → length m < (g.nob + 7) / 8 → Gives (checked_call g t m) (Err refusal.Marks) m
  unfolding checked_call mark_bytes
  checked_few h l =
      rw (le-leb g.bytes (length t) h, lt-leb ((g.nob + 7) / 8) (length m) l) (record { answer = refl; bytes = refl })

  pub checked_done : g.bytes ≤ length t → (g.nob + 7) / 8 ≤ length m → (r : Bool) → r ≡ table_sound g t → (after : List ℕ) → after ≡ marks_after g m
      → Gives (checked_call g t m) (Ok r) after
  unfolding checked_call mark_bytes
  checked_done h l r e after q =
      rw (le-leb g.bytes (length t) h, le-leb ((g.nob + 7) / 8) (length m) l)
      (record { answer = ap Ok e; bytes = q })

module _ (s : Settings) (t m : List ℕ) where
  legal_call_lem : legal s ≡ true → checked_call (layout_of s) t m ≡ check_call s t m
  unfolding checked_call check_call layout_of
  legal_call_lem h = rw h

  pub check_legal : (g : Layout) (r : Result Bool Refusal) (u : List ℕ) → legal s ≡ true → layout_of s ≡ g → Gives (checked_call g t m) r u → Gives (check_call s t m) r u
  check_legal g r u h e =
      subst (λ (o : Reply (Result Bool Refusal)). Gives o r u) (ap (λ (x : Layout). checked_call x t m) (sym e) ∙ legal_call_lem h)

  pub check_illegal : legal s ≡ false → Gives (check_call s t m) (Err refusal.Settings) m
  unfolding check_call
  check_illegal h = rw h (record { answer = refl; bytes = refl })
