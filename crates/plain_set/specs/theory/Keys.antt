-- Keys in the slots of a table with legal settings: a slot of a list gives its key back, and a key gives its list and slot.
use Rattle.std.specs.Prelude.{◌≡◌, refl, ℕ, ◌^◌, ◌<◌, eqb}
use Rattle.std.proofs.Common.{sym, ap, ◌∙◌, eqb-true, eq-eqb, ne_eqb}
use Rattle.std.proofs.Math.Pow.{shr_lt, high, low}
use Rattle.std.proofs.lemmas.Bool.{eqb-false}
use Rattle.laws.specs.Cases.{cases}
use Rattle.settings.specs.declared.settings.Settings.{Settings}
use Rattle.settings.specs.Sizes.{bie, lists}
use Rattle.settings.specs.Legal.{Legal}
use Rattle.settings.specs.Layout.{layout_of}
use Rattle.keys.specs.Key.{entry, list_number, rebuilt}
use Rattle.table.specs.State.{entry_of, label_of, slot_of}
use Rattle.plain_set.specs.Rebuilt.{pair_of}
use Rattle.plain_set.specs.Set.{has_key}
use Rattle.table.specs.theory.Formed.{Fits}
use Rattle.table.specs.theory.Written.{join_fits}
use Rattle.keys.specs.theory.Keys.{list_below, key_rebuilt, list_rebuilt, entry_rebuilt, entry_below, rebuilt_below}

pub layout_lists : (s : Settings) → (layout_of s).lists ≡ lists s
unfolding layout_of
layout_lists s = refl

module _ (s : Settings) where
  -- what a slot that fits holds is an entry
  pub entry_fits : (x : ℕ) → Fits (layout_of s).slot x → entry_of (layout_of s) x < 2 ^ bie s
  unfolding layout_of
  entry_fits x h = shr_lt (bie s) s.val h

  -- the slot of a key and a label: it fits, and gives both back
  module _ (k l : ℕ) (label-high : l < 2 ^ s.val) where
    pub slot_fits : Fits (layout_of s).slot (slot_of (layout_of s) (entry s k) l)
    unfolding layout_of
    slot_fits = join_fits (bie s) s.val (entry_below s k) label-high

    pub slot_entry : entry_of (layout_of s) (slot_of (layout_of s) (entry s k) l) ≡ entry s k
    unfolding layout_of
    slot_entry = high (entry s k) s.val label-high

    pub slot_label : label_of (layout_of s) (slot_of (layout_of s) (entry s k) l) ≡ l
    unfolding layout_of
    slot_label = low (entry s k) s.val label-high

module _ (s : Settings) (legal : Legal s) where
  -- a key's list is one of the table's
  pub number_below : (k : ℕ) → k < 2 ^ s.w → list_number s k < lists s
  unfolding lists
  number_below k h = list_below legal h

  -- said of the layout
  pub in_table : (k : ℕ) → k < 2 ^ s.w → list_number s k < (layout_of s).lists
  in_table k h = rw (layout_lists s) (number_below k h)

  -- a key's entry in the key's list gives the key
  pub key_of_entry : (k x : ℕ) → k < 2 ^ s.w → entry_of (layout_of s) x ≡ entry s k
      → rebuilt s (list_number s k) (entry_of (layout_of s) x) ≡ k
  key_of_entry k x h e = ap (rebuilt s (list_number s k)) e ∙ key_rebuilt legal h

  -- the key of a slot in list i belongs to list i, and has the slot's entry
  module _ (i x : ℕ) (list_high : i < lists s) (fits : Fits (layout_of s).slot x) where
    pub number_of_slot : list_number s (rebuilt s i (entry_of (layout_of s) x)) ≡ i
    unfolding lists
    number_of_slot = list_rebuilt legal list_high (entry_fits s x fits)

    entry_of_slot : entry s (rebuilt s i (entry_of (layout_of s) x)) ≡ entry_of (layout_of s) x
    unfolding lists
    entry_of_slot = entry_rebuilt legal list_high (entry_fits s x fits)

    -- and is a key of the table
    pub key_of_slot_below : rebuilt s i (entry_of (layout_of s) x) < 2 ^ s.w
    unfolding lists
    key_of_slot_below = rebuilt_below legal list_high (entry_fits s x fits)

  -- in the key's list a slot has the key exactly if it has the key's entry
  pub key_test : (k x : ℕ) → k < 2 ^ s.w → Fits (layout_of s).slot x
      → has_key k (pair_of s (list_number s k) x) ≡ eqb (entry_of (layout_of s) x) (entry s k)
  key_test k x h fits =
      let there = rebuilt s (list_number s k) (entry_of (layout_of s) x) in
      let test = eqb (entry_of (layout_of s) x) (entry s k) in
      cases test
      (λ e. eq-eqb there k (key_of_entry k x h (eqb-true _ _ e)) ∙ sym e)
      (λ e.
      ne_eqb there k (λ q. eqb-false _ _ e (sym (entry_of_slot (list_number s k) x (number_below k h) fits) ∙ ap (entry s) q)) ∙ sym e)
