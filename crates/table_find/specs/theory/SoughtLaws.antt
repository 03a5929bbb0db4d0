-- A key that was sought in the table that was opened for it: where its list and its entry stand there, and what a call with it comes to.
use Rattle.std.specs.Prelude.{◌≡◌, refl, List, ℕ, ◌^◌, ◌<◌, length, Err, Ok}
use Rattle.std.proofs.Common.{sym, ap, ap₂, ◌∙◌, arith, leb-true, ltb-true}
use Rattle.settings.specs.declared.settings.Settings.{Settings}
use Rattle.settings.specs.declared.layout.Layout.{Layout}
use Rattle.settings.specs.Sizes.{table_bytes}
use Rattle.settings.specs.Legal.{Legal}
use Rattle.settings.specs.theory.Legal.{legal_means}
use Rattle.settings.specs.Layout.{layout_of}
use Rattle.settings.specs.Reply.{called}
use Rattle.keys.specs.declared.Key.{Key}
use Rattle.keys.specs.declared.Place.{Place}
use Rattle.keys.specs.Key.{key_number, list_number, entry, place_of}
use Rattle.table.specs.Decode.{decode}
use Rattle.table.specs.Table.{Table}
use Rattle.table.specs.Find.{find_in}
use Rattle.table.specs.Done.{replied}
use Rattle.table.specs.Calls.{Verb, list_call, verb_due, key_call}
use Rattle.table.specs.theory.Opened.{opened_table, place_list, place_entry, place_list_below, place_entry_below}
use Rattle.table_find.specs.Seek.{open_of, sought_of}
use Rattle.table_find.specs.declared.Sought.{Sought}
use Rattle.table_find.specs.theory.Seeks.{Opened, open_means, open_call}
use Rattle.table.specs.Answer.{Answer}

-- the lent bytes hold a table
pub open_table : {s : Settings} {k : Key} {g : Layout} (t : List ℕ) → Opened s (length t) k g → Table g t
unfolding layout_of
open_table {s} {k} {g} t o =
    opened_table s g o.lawful o.layout t (omega (arith, leb-true (table_bytes s) (length t) o.long, ap (λ (x : Layout). x.bytes) o.layout))

-- what seeking the key k gave, in terms of the table t, whose layout is g: the key's list and entry, what find answers there, and what any call comes to
pub record SoughtIn (s : Settings) (t : List ℕ) (k : Key) (g : Layout) (v : Sought) : Type 0 where
  pub table : Table g t
  pub list_below : v.place.list.0 < g.lists
  pub entry_below : key_number v.place.entry < 2 ^ g.bie
  pub found_is : v.found ≡ find_in g (decode g t) v.place.list.0 (key_number v.place.entry)
  pub call_is : (b : Verb)
      → key_call s t b k
      ≡ called Err t (verb_due s b) (replied g t (list_call g (decode g t) v.place.list.0 (key_number v.place.entry) b))

pub sought_means : (s : Settings) (t : List ℕ) (k : Key) (g : Layout) (v : Sought) → open_of s (length t) k ≡ Ok g → v ≡ sought_of s t k → SoughtIn s t k g v
unfolding sought_of
sought_means s t k g v e ev =
    let o = open_means s k (length t) g e in
    let n = key_number k in
    let p : v.place ≡ place_of s n = ap (λ (x : Sought). x.place) ev in
    let i : v.place.list.0 ≡ list_number s n = place_list s g o.lawful o.layout n o.low v.place p in
    let d : key_number v.place.entry ≡ entry s n = place_entry s g o.lawful o.layout n o.low v.place p in
    record {
      table = open_table t o;
      list_below = place_list_below s g o.lawful o.layout n o.low v.place p;
      entry_below = place_entry_below s g o.lawful o.layout n o.low v.place p;
      found_is =
          ap (λ (x : Sought). x.found) ev
          ∙ sym (ap₂ (find_in (layout_of s) (decode (layout_of s) t)) i d)
          ∙ ap (λ (x : Layout). find_in x (decode x t) v.place.list.0 (key_number v.place.entry)) o.layout;
      call_is = λ b.
          open_call s k t b o
          ∙ sym (ap₂ (λ (m q : ℕ). called Err t (verb_due s b) (replied (layout_of s) t (list_call (layout_of s) (decode (layout_of s) t) m q b))) i d)
          ∙ ap (λ (x : Layout). called Err t (verb_due s b) (replied x t (list_call x (decode x t) v.place.list.0 (key_number v.place.entry) b))) o.layout;
    }

-- a key's place in the table that was opened for it: what finding it there asks, and what is found
pub record PlacedAt (s : Settings) (t : List ℕ) (k : Key) (g : Layout) (p : Place) : Type 0 where
  pub place : Legal s × (key_number k < 2 ^ s.w)
  pub find : Table g t × (p.list.0 < g.lists) × (key_number p.entry < 2 ^ g.bie)
  pub found_is : find_in g (decode g t) p.list.0 (key_number p.entry) ≡ (sought_of s t k).found

pub placed_at : (s : Settings) (k : Key) {g : Layout} (t : List ℕ) → open_of s (length t) k ≡ Ok g → PlacedAt s t k g (place_of s (key_number k))
unfolding sought_of
placed_at s k {g} t e =
    let o = open_means s k (length t) g e in
    let w = sought_means s t k g (sought_of s t k) e refl in
    record {
      place = (legal_means s o.lawful, ltb-true (key_number k) (2 ^ s.w) o.low);
      find = (w.table, w.list_below, w.entry_below);
      found_is = sym w.found_is;
    }

-- sought: what stands at its place, and is found there
pub sought_as : (s : Settings) (k : Key) {g : Layout} (t : List ℕ) → open_of s (length t) k ≡ Ok g → (p : Place) (f : Answer)
    → p ≡ place_of s (key_number k) → f ≡ find_in g (decode g t) p.list.0 (key_number p.entry)
    → ◌≡◌ {A = Sought} (record { place = p; found = f }) (sought_of s t k)
unfolding sought_of
sought_as s k t e p f ep ef =
    let found : f ≡ (sought_of s t k).found = ef ∙ rw ep (placed_at s k t e).found_is in
    λ i. record { place = ep i; found = found i }
