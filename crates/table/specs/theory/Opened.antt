-- What every call on a table comes to by its first tests, and what holds once they are passed.
use Rattle.std.specs.Prelude.{◌≡◌, true, false, List, ◌∷◌, ℕ, ◌^◌, ◌≤◌, ◌<◌, length, ltb}
use Rattle.std.proofs.Math.Path.{ap}
use Rattle.std.proofs.Common.{◌∙◌, arith}
use borrow.Author.Tests.{le-leb, lt-leb, ltb-true}
use Rattle.settings.specs.Sizes.{lists, table_bytes}
use Rattle.settings.specs.Legal.{legal}
use Rattle.settings.specs.Layout.{layout_of}
use Rattle.keys.specs.Key.{key_number, list_number, entry, place_of}
use Rattle.settings.specs.theory.Legal.{legal_means}
use Rattle.settings.specs.theory.Proper.{layout_proper}
use Rattle.keys.specs.theory.Keys.{number_key, list_below, entry_below}
use Rattle.settings.specs.declared.settings.Settings.{Settings}
use Rattle.settings.specs.declared.layout.Layout.{Layout}
use Rattle.keys.specs.declared.Place.{Place}
use Rattle.settings.specs.declared.refusal.Refusal.{Refusal}
use Rattle.settings.specs.declared.refusal.Refusal.TheVariants as refusal
use Rattle.table.specs.Table.{Table}
use Rattle.settings.specs.Due.{Due, unless_due, settings_due, short_due}

-- a call whose first refusals are 1 and 2, and that is lent n bytes
module _ {A : Type 0} (refuse : Refusal → A) (s : Settings) (n : ℕ) (ds : List Due) (on : A) where
  pub due_settings : legal s ≡ false → unless_due (settings_due s ∷ short_due s n ∷ ds) refuse on ≡ refuse refusal.Settings
  due_settings h = rw h

  pub due_short : (g : Layout) → legal s ≡ true → layout_of s ≡ g → n < g.bytes
      → unless_due (settings_due s ∷ short_due s n ∷ ds) refuse on ≡ refuse refusal.Short
  unfolding layout_of
  due_short g h e l =
      let b = ap (λ (x : Layout). x.bytes) e in
      rw (h, lt-leb (table_bytes s) n (omega arith))

  pub due_later : (g : Layout) → legal s ≡ true → layout_of s ≡ g → g.bytes ≤ n
      → unless_due (settings_due s ∷ short_due s n ∷ ds) refuse on ≡ unless_due ds refuse on
  unfolding layout_of
  due_later g h e l =
      let b = ap (λ (x : Layout). x.bytes) e in
      rw (h, le-leb (table_bytes s) n (omega arith))

module _ (s : Settings) (g : Layout) (h : legal s ≡ true) (e : layout_of s ≡ g) where
  -- the lent bytes hold a table
  pub opened_table : (t : List ℕ) → g.bytes ≤ length t → Table g t
  opened_table t l =
      let F = rw e at (layout_proper s (legal_means s h)) in
      record { proper = F; room = omega (arith, F.bytes_is) }

  -- a key's list is one of the table's, and its entry fits a slot
  module _ (k : ℕ) (b : ltb k (2 ^ s.w) ≡ true) (p : Place) (q : p ≡ place_of s k) where
    pub place_list : p.list.0 ≡ list_number s k
    unfolding place_of
    place_list = ap (λ (x : Place). x.list.0) q

    pub place_entry : key_number p.entry ≡ entry s k
    unfolding place_of
    place_entry = ap (λ (x : Place). key_number x.entry) q ∙ number_key (entry s k)

    pub place_list_below : p.list.0 < g.lists
    unfolding layout_of lists
    place_list_below =
        let l = list_below (legal_means s h) (ltb-true k (2 ^ s.w) b) in
        omega (arith, place_list, ap (λ (x : Layout). x.lists) e)

    pub place_entry_below : key_number p.entry < 2 ^ g.bie
    unfolding layout_of
    place_entry_below =
        let l = entry_below s k in
        let w : 2 ^ (layout_of s).bie ≡ 2 ^ g.bie = ap (λ (x : Layout). 2 ^ x.bie) e in
        omega (arith, place_entry)
