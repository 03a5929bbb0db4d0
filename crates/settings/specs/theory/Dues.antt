-- A call's refusals: one is due, or none is.
use Rattle.std.specs.Prelude.{◌≡◌, Bool, true, false, not, List, [], ◌∷◌, refl}
use Rattle.std.proofs.Common.{sym}
use Rattle.laws.specs.Cases.{cases, never}
use Rattle.settings.specs.declared.refusal.Refusal.{Refusal}
use Rattle.settings.specs.Due.{Due, unless_due}

abbrev pub NoneDue : List Due → Type 0
NoneDue [] = Unit {0}
NoneDue (d ∷ ds) = (d.is ≡ false) × NoneDue ds

-- what takes a refusal, or goes on
abbrev pub Choice : Type 1
Choice = (A : Type 0) → (Refusal → A) → A → A

-- what holds with every refusal, and holds going on where none is due, holds of the call; of all that is made of it at once
pub by_dues : (P : Choice → Type 0) (ds : List Due) → ((why : Refusal) → P (λ A refuse on. refuse why)) → (NoneDue ds → P (λ A refuse on. on))
    → P (λ A refuse on. unless_due ds refuse on)
by_dues P [] stop go = go tt
by_dues P (d ∷ ds) stop go = cases d.is (λ e. rw e (stop d.why)) (λ e. rw e (by_dues P ds stop (λ n. go (e, n))))

-- what follows a call follows each of its refusals
pub due_through : {A B : Type 0} (f : A → B) (ds : List Due) (refuse : Refusal → A) (on : A)
    → f (unless_due ds refuse on) ≡ unless_due ds (λ why. f (refuse why)) (f on)
due_through f [] refuse on = refl
due_through f (d ∷ ds) refuse on = cases d.is (λ e. rw e) (λ e. rw e (due_through f ds refuse on))

-- a test whose refusal is not due was passed
pub passed : {b : Bool} → not b ≡ false → b ≡ true
passed {b} e = cases b (λ q. q) (λ q. never (sym (rw q at e)))
