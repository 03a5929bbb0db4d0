-- What a call answers, and the lent bytes that it may write, as it leaves them. A refusal leaves them as they were.
use Rattle.std.specs.Prelude.{◌≡◌, ℕ, List}
use Rattle.settings.specs.declared.refusal.Refusal.{Refusal}
use Rattle.settings.specs.Due.{Due, unless_due}

pub record Reply (A : Type 0) : Type 0 where
  pub answer : A
  pub bytes : List ℕ

abbrev pub reply : {A : Type 0} → A → List ℕ → Reply A
reply a t = record { answer = a; bytes = t }

-- a call that is lent the bytes t: the first of its refusals that is due, or what it comes to
abbrev pub called : {A : Type 0} → (Refusal → A) → List ℕ → List Due → Reply A → Reply A
called refuse t ds on = unless_due ds (λ why. reply (refuse why) t) on

-- the same answer in other words
abbrev pub answering : {A B : Type 0} → (A → B) → Reply A → Reply B
answering f o = reply (f o.answer) o.bytes

-- r and u are the answer and the bytes of the reply o: what a call promises
pub record Gives {A : Type 0} (o : Reply A) (r : A) (u : List ℕ) : Type 0 where
  pub answer : r ≡ o.answer
  pub bytes : u ≡ o.bytes
