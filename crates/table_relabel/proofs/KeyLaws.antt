-- Relabel of a key: what find answered decides what it comes to.
use Rattle.std.specs.Prelude.{Ok}
use mathlib.Core.Path.{◌≡◌, refl, sym, ap, ap₂, subst, ◌∙◌}
use mathlib.Core.List.{List}
use Prim.Native.Nat.{ℕ, ◌-◌, ◌^◌, ◌<◌}
use native.Mathlib.Omega.{arith}
use lib.ListN.{length, get_or}
use borrow.Author.Tests.{eqb-true, ltb-true, lt-ltb}
use Rattle.bits.specs.Bytes.{Bytes}
use Rattle.settings.specs.declared.settings.Settings.{Settings}
use Rattle.settings.specs.declared.layout.Layout.{Layout}
use Rattle.settings.specs.Reply.{Gives}
use Rattle.keys.specs.declared.Key.{Key}
use Rattle.keys.specs.Key.{key_number}
use Rattle.table.specs.State.{State, entry_of, slot_of}
use Rattle.table.specs.Decode.{decode}
use Rattle.table.specs.Find.{position, number_at, find_in}
use Rattle.table.specs.Done.{done, unchanged, answered, replied}
use Rattle.table.specs.Store.{store_at}
use Rattle.table.specs.Relabel.{relabel_followed, relabel_in}
use Rattle.table.specs.Calls.{list_call, relabel, key_call}
use Rattle.table.specs.theory.Positions.{position_held}
use Rattle.table.specs.Answer.{said, Answer}
use Rattle.table.specs.declared.answers.Said.{Said}
use Rattle.table.specs.declared.answers.Word.{Word}
use Rattle.table.specs.declared.answers.Word.TheVariants as word
use Rattle.table_store.specs.Places.{Placed}
use Rattle.table_store.specs.theory.StoreLaws.{stored_written}
use Rattle.table_find.specs.declared.Sought.{Sought}
use Rattle.table_find.specs.Seek.{open_of, sought_of}
use Rattle.table_find.specs.theory.Seeks.{Opened, open_means}
use Rattle.table_find.specs.theory.SoughtLaws.{SoughtIn, sought_means}
use Rattle.table_find.specs.theory.Labels.{label_slot}
use Rattle.table_find.specs.theory.Helds.{Other, find_held, other_stays}
use Rattle.table_relabel.specs.Relabels.{Relabellable, relabelled, Relabelled}

-- ---- on a list

-- the n-th slot holds the entry, with the label l and the number x
pub record Found (g : Layout) (st : State) (i e label l n x : ℕ) : Type 0 where
  pub some_compared : 0 < n
  pub placed : Placed g st i (n - 1)
  pub goes : relabel_in g st i e label ≡ answered (said word.Relabelled l n x) (done (relabelled g st i (n - 1) label))

module _ (g : Layout) (st : State) (i e label : ℕ) where
  -- the entry that stands there is the one that was sought
  pub held_goes : (l n x : ℕ) → find_in g st i e ≡ said word.Held l n x → Found g st i e label l n x
  unfolding relabel_in relabel_followed relabelled
  held_goes l n x q =
      let w = find_held g st i e l n x q in
      let es = w.followed.slots in
      let k : n - 1 ≡ position g e es = omega (arith, w.place) in
      let m = ltb-true (position g e es) (length es) w.held in
      let same : entry_of g (get_or es (position g e es) 0) ≡ e = eqb-true (entry_of g (get_or es (position g e es) 0)) e (position_held g e es 0 m) in
      record {
        some_compared = omega (arith, w.place);
        placed = record { followed = w.followed; is = w.is; within = omega arith };
        goes =
            rw (w.is, w.held)
            (ap₂ (λ (a b : ℕ). answered (said word.Relabelled a b (number_at g i e w.followed)) (done (store_at g st i w.followed.blocks (position g e es) (slot_of g e label)))) w.label w.place
            ∙ ap₂ (λ (a b : ℕ). answered (said word.Relabelled l n a) (done (store_at g st i w.followed.blocks (position g e es) (slot_of g b label)))) w.number (sym same)
            ∙ ap (λ (y : ℕ). answered (said word.Relabelled l n x) (done (store_at g st i w.followed.blocks y (slot_of g (entry_of g (get_or es y 0)) label)))) (sym k));
      }

  -- what find answers else, relabel does too
  pub relabel_stays : Other (find_in g st i e) → relabel_in g st i e label ≡ unchanged (find_in g st i e)
  unfolding relabel_in relabel_followed
  relabel_stays h = other_stays g st i e (relabel_followed g st i e label) refl (λ v p. rw p) h

-- ---- by key, in a table that was opened for it

-- v is what seeking the key gave, and the settings allow the label
pub record Asked (s : Settings) (t : List ℕ) (key : Key) (g : Layout) (v : Sought) (label : ℕ) : Type 0 where
  pub opened : Opened s (length t) key g
  pub sought : SoughtIn s t key g v
  pub low : label < 2 ^ s.val

pub asked : (s : Settings) (t : List ℕ) (key : Key) (g : Layout) (v : Sought) (label : ℕ)
    → (open_of s (length t) key ≡ Ok g) × (v ≡ sought_of s t key) × (label < 2 ^ s.val) → Asked s t key g v label
asked s t key g v label r =
    record { opened = open_means s key (length t) g r.0; sought = sought_means s t key g v r.0 r.1; low = r.2 }

module _ {s : Settings} {t : List ℕ} {key : Key} {g : Layout} {v : Sought} (S : SoughtIn s t key g v) (label : ℕ) (h : label < 2 ^ s.val) where
  abbrev list : ℕ
  list = v.place.list.0

  abbrev entry : ℕ
  entry = key_number v.place.entry

  call_is : key_call s t (relabel label) key ≡ replied g t (relabel_in g (decode g t) list entry label)
  unfolding list_call
  call_is = S.call_is (relabel label) ∙ rw (lt-ltb label (2 ^ s.val) h)

  pub sought_held : (l n x : ℕ) → v.found ≡ said word.Held l n x → Found g (decode g t) list entry label l n x
  sought_held l n x f = held_goes g (decode g t) list entry label l n x (sym S.found_is ∙ f)

  pub other_gives : (a : Answer) → v.found ≡ a → Other a → Gives (key_call s t (relabel label) key) a t
  other_gives a e o =
      let is : a ≡ find_in g (decode g t) list entry = sym e ∙ S.found_is in
      rw (call_is, relabel_stays g (decode g t) list entry label (subst Other is o)) (record { answer = is; bytes = refl })

  -- the entry is the n-th, and has the new label
  pub relabelled_gives : Bytes t → (l n x : ℕ) → Found g (decode g t) list entry label l n x → (u : List ℕ)
      → Relabelled g t u list (n - 1) label → Gives (key_call s t (relabel label) key) (said word.Relabelled l n x) u
  relabelled_gives y l n x F u R = rw (call_is, F.goes) (record { answer = refl; bytes = stored_written S.table y R })

module _ {s : Settings} {t : List ℕ} {key : Key} {g : Layout} {v : Sought} {label : ℕ} (A : Asked s t key g v label) where
  -- the entry was found
  module _ {r : Said} (e : v.found ≡ Ok r) (w : r.word ≡ word.Held) where
    pub found : Found g (decode g t) v.place.list.0 (key_number v.place.entry) label r.label r.compared r.slot
    found = sought_held A.sought label A.low r.label r.compared r.slot (e ∙ ap (λ (x : Word). said x r.label r.compared r.slot) w)

    pub some_compared : 0 < r.compared
    some_compared = found.some_compared

    pub relabellable : Relabellable g t v.place.list.0 (r.compared - 1) label
    relabellable = record { table = A.sought.table; list = A.sought.list_below; placed = found.placed; fits = label_slot A.opened A.low }

    -- and has the new label
    pub held_gives : Bytes t → (u : List ℕ) → Relabelled g t u v.place.list.0 (r.compared - 1) label
        → Gives (key_call s t (relabel label) key) (said word.Relabelled r.label r.compared r.slot) u
    held_gives y u d = relabelled_gives A.sought label A.low y r.label r.compared r.slot found u d
