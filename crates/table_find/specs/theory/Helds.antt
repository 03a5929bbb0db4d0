-- What find answers of a list: "held" tells the entry's place; with any other answer delete and relabel leave the list as it is.
use Rattle.std.proofs.Math.Path.{◌≡◌, refl}
use Rattle.std.specs.Prelude.{true, false, Ok, Err}
use Rattle.std.proofs.Math.Option.{Option, none, some}
use Prim.Native.Nat.{ℕ, suc}
use Rattle.std.proofs.Common.{arith}
use Rattle.laws.specs.Cases.{cases}
use Rattle.settings.specs.declared.layout.Layout.{Layout}
use Rattle.settings.specs.declared.refusal.Refusal.TheVariants as refusal
use Rattle.table.specs.State.{State}
use Rattle.table.specs.Follow.{Content, content}
use Rattle.table.specs.Find.{position, is_held, label_at, compared_in, number_at, find_followed, find_in}
use Rattle.table.specs.Done.{Answered, unchanged}
use Rattle.table.specs.Answer.{said, Answer}
use Rattle.table.specs.theory.Answers.{said_same}
use Rattle.table.specs.declared.answers.Word.{Word}
use Rattle.table.specs.declared.answers.Word.TheVariants as word

-- list i can be followed, and its n-th slot is the first that holds the entry e, with the label l and the number x
pub record HeldAt (g : Layout) (st : State) (i e l n x : ℕ) : Type 0 where
  pub followed : Content
  pub is : content g st i ≡ some followed
  pub held : is_held g e followed.slots ≡ true
  pub label : label_at g e followed.slots ≡ l
  pub place : suc (position g e followed.slots) ≡ n
  pub number : number_at g i e followed ≡ x

-- any word but "held"
abbrev pub NotHeld : Word → Type 0
NotHeld word.Added = Unit {0}
NotHeld word.Held = ⊥
NotHeld word.Gone = Unit {0}
NotHeld word.None = Unit {0}
NotHeld word.Relabelled = Unit {0}

-- any answer but "held"
abbrev pub Other : Answer → Type 0
Other (Ok said) = NotHeld said.word
Other (Err why) = Unit {0}

pub not_held : (w : Word) (l n x : ℕ) → (w ≡ word.Held → ⊥) → Other (said w l n x)
not_held word.Added l n x h = tt
not_held word.Held l n x h = h refl
not_held word.Gone l n x h = tt
not_held word.None l n x h = tt
not_held word.Relabelled l n x h = tt

module _ (g : Layout) (st : State) (i e : ℕ) where
  held_as : (l n x : ℕ) (o : Option Content) → content g st i ≡ o → find_followed g i e o ≡ said word.Held l n x → HeldAt g st i e l n x
  unfolding find_followed
  held_as l n x none w = λ q. absurd (let z : ◌≡◌ {A = ℕ} 0 1 = cc in omega arith)
  held_as l n x (some v) w =
      cases (is_held g e v.slots)
      (λ p. rw p (λ q.
      let same = said_same q in
      record { followed = v; is = w; held = p; label = same.label; place = same.compared; number = same.slot }))
      (λ p. rw p (λ q. absurd (let w : word.None ≡ word.Held = (said_same q).word in let z : ◌≡◌ {A = ℕ} 0 1 = cc in omega arith)))

  pub find_held : (l n x : ℕ) → find_in g st i e ≡ said word.Held l n x → HeldAt g st i e l n x
  unfolding find_in
  find_held l n x q = held_as l n x (content g st i) refl q

  -- what a call comes to that refuses damage and says "none" as find does
  module _ (f : Option Content → Answered) (damaged : f none ≡ unchanged (Err refusal.Damage))
      (missed : (v : Content) → is_held g e v.slots ≡ false → f (some v) ≡ unchanged (said word.None 0 (compared_in g e v.slots) 0)) where
    other_as : (o : Option Content) → Other (find_followed g i e o) → f o ≡ unchanged (find_followed g i e o)
    unfolding find_followed
    other_as none = λ h. damaged
    other_as (some v) = cases (is_held g e v.slots) (λ p. rw p (λ h. absurd h)) (λ p. rw p (λ h. rw p at (missed v p)))

    pub other_stays : Other (find_in g st i e) → f (content g st i) ≡ unchanged (find_in g st i e)
    unfolding find_in
    other_stays h = other_as (content g st i) h
