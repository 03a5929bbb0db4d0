-- Entering, by what find answers.
use Rattle.std.specs.Prelude.{Err}
use mathlib.Core.Path.{◌≡◌, refl, sym, ap, ◌∙◌}
use mathlib.Core.List.{List}
use mathlib.Core.Option.{Option, none, some}
use Prim.Native.Nat.{ℕ, ◌^◌, ◌<◌}
use native.Mathlib.Omega.{arith}
use lib.ListN.{length}
use borrow.Author.Tests.{lt-ltb}
use Rattle.laws.specs.Cases.{cases}
use Rattle.settings.specs.declared.settings.Settings.{Settings}
use Rattle.settings.specs.declared.layout.Layout.{Layout}
use Rattle.settings.specs.declared.refusal.Refusal.{Refusal}
use Rattle.settings.specs.declared.refusal.Refusal.TheVariants as refusal
use Rattle.settings.specs.Reply.{Gives}
use Rattle.keys.specs.declared.Key.{Key}
use Rattle.keys.specs.Key.{key_number}
use Rattle.table.specs.State.{State, slot_of}
use Rattle.table.specs.Decode.{decode}
use Rattle.table.specs.Check.{blocks_of}
use Rattle.table.specs.Follow.{Content, content}
use Rattle.table.specs.Find.{is_held, find_followed, find_in}
use Rattle.table.specs.Enter.{append, end_number, enter_followed, enter_in}
use Rattle.table.specs.Done.{unchanged, answered, replied}
use Rattle.table.specs.Calls.{enter, list_call, key_call}
use Rattle.table.specs.Answer.{said, Answer}
use Rattle.table.specs.declared.answers.Word.{Word}
use Rattle.table.specs.declared.answers.Word.TheVariants as word
use Rattle.table.specs.theory.Answers.{said_same}
use Rattle.table_find.specs.declared.Sought.{Sought}
use Rattle.table_find.specs.theory.SoughtLaws.{SoughtIn}
use Rattle.table_enter.specs.Enters.{append_to, number_for, Appended, Readable}

-- ---- on a list

said_refused : {X : Type 0} (w : Word) (l n x : ℕ) (why : Refusal) → said w l n x ≡ Err why → X
said_refused w l n x why e = absurd (let z : ◌≡◌ {A = ℕ} 0 1 = cc in omega arith)

held_none : {X : Type 0} (k m y l n x : ℕ) → said word.Held k m y ≡ said word.None l n x → X
held_none k m y l n x e = absurd (let w = (said_same e).word in let z : ◌≡◌ {A = ℕ} 0 1 = cc in omega arith)

-- list i has n entries, and e is none of them
pub record Missing (g : Layout) (st : State) (i e label n : ℕ) : Type 0 where
  pub readable : Readable g st i n
  pub appends : enter_in g st i e label ≡ answered (said word.Added label n (number_for g st i)) (append g st i (blocks_of (content g st i)) (slot_of g e label))

module _ (g : Layout) (st : State) (i e label : ℕ) where
  refused_as : (why : Refusal) (o : Option Content) → find_followed g i e o ≡ Err why → enter_followed g st i e label o ≡ unchanged (Err why)
  unfolding find_followed enter_followed
  refused_as why none = λ q. ap unchanged q
  refused_as why (some v) = cases (is_held g e v.slots) (λ p. rw p (said_refused _ _ _ _ why)) (λ p. rw p (said_refused _ _ _ _ why))

  -- a list that find refuses, enter refuses too
  pub refused_too : (why : Refusal) → find_in g st i e ≡ Err why → enter_in g st i e label ≡ unchanged (Err why)
  unfolding find_in enter_in
  refused_too why q = refused_as why (content g st i) q

  known_as : (w : Word) (l n x : ℕ) → (w ≡ word.None → ⊥) → (o : Option Content) → find_followed g i e o ≡ said w l n x
      → enter_followed g st i e label o ≡ unchanged (Err refusal.Known)
  unfolding find_followed enter_followed
  known_as w l n x k none = λ q. said_refused w l n x _ (sym q)
  known_as w l n x k (some v) = cases (is_held g e v.slots) (λ p. rw p (λ q. refl)) (λ p. rw p (λ q. absurd (k (sym (said_same q).word))))

  -- a word of find's other than "none" means that the entry is held
  pub known : (w : Word) (l n x : ℕ) → (w ≡ word.None → ⊥) → find_in g st i e ≡ said w l n x → enter_in g st i e label ≡ unchanged (Err refusal.Known)
  unfolding find_in enter_in
  known w l n x k q = known_as w l n x k (content g st i) q

  missing_as : (l n x : ℕ) (o : Option Content) → content g st i ≡ o → find_followed g i e o ≡ said word.None l n x → Missing g st i e label n
  unfolding find_followed enter_followed enter_in number_for
  missing_as l n x none w = λ q. said_refused word.None l n x _ (sym q)
  missing_as l n x (some v) w =
      cases (is_held g e v.slots)
      (λ p. rw p (held_none _ _ _ l n x))
      (λ p. rw p (λ q.
      let long : length v.slots ≡ n = (said_same q).compared in
      record {
        readable = record { followed = v; is = w; long = sym long };
        appends = rw (w, p) (ap (λ (m : ℕ). answered (said word.Added label m (end_number g st i v)) (append g st i v.blocks (slot_of g e label))) long);
      }))

  -- where find says "none", it followed the list to its end, and compared all its entries
  pub missing : (l n x : ℕ) → find_in g st i e ≡ said word.None l n x → Missing g st i e label n
  unfolding find_in
  missing l n x q = missing_as l n x (content g st i) refl q

-- ---- by key, in a table that was opened for it

module _ {s : Settings} {t : List ℕ} {key : Key} {g : Layout} {v : Sought} (S : SoughtIn s t key g v) {label : ℕ} (h : label < 2 ^ s.val) where
  abbrev list : ℕ
  list = v.place.list.0

  abbrev sought : ℕ
  sought = key_number v.place.entry

  enter_as : key_call s t (enter label) key ≡ replied g t (enter_in g (decode g t) list sought label)
  unfolding list_call
  enter_as = S.call_is (enter label) ∙ rw (lt-ltb label (2 ^ s.val) h) refl

  pub refused_gives : (why : Refusal) → v.found ≡ Err why → Gives (key_call s t (enter label) key) (Err why) t
  refused_gives why e =
      rw (enter_as, refused_too g (decode g t) list sought label why (sym S.found_is ∙ e)) (record { answer = refl; bytes = refl })

  pub known_gives : (w : Word) (l n x : ℕ) → (w ≡ word.None → ⊥) → v.found ≡ said w l n x → Gives (key_call s t (enter label) key) (Err refusal.Known) t
  known_gives w l n x k e =
      rw (enter_as, known g (decode g t) list sought label w l n x k (sym S.found_is ∙ e)) (record { answer = refl; bytes = refl })

  pub sought_missing : (l n x : ℕ) → v.found ≡ said word.None l n x → Missing g (decode g t) list sought label n
  sought_missing l n x e = missing g (decode g t) list sought label l n x (sym S.found_is ∙ e)

  -- the key's entry with its label is appended
  pub appended_gives : (n : ℕ) → Missing g (decode g t) list sought label n → (u : List ℕ) (r : Answer)
      → Appended g t u list (record { entry = v.place.entry; label = label; compared = n }) r → Gives (key_call s t (enter label) key) r u
  unfolding append_to
  appended_gives n M u r a = rw (enter_as, M.appends) a
