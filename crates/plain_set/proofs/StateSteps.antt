-- The calls on a state that holds lists of slots: the key's list tells the answer, and the state after it holds the lists after it.
use Rattle.std.specs.Prelude.{◌≡◌, refl, List, []}
use Rattle.std.proofs.Common.{sym, subst}
use Rattle.std.proofs.Math.Option.{Option, none, some}
use Prim.Native.Nat.{ℕ, ◌^◌, ◌<◌}
use Rattle.std.proofs.Math.ListN.{set}
use Rattle.std.proofs.lemmas.List.{set-get_or}
use Rattle.laws.specs.Cases.{cases}
use Rattle.settings.specs.declared.settings.Settings.{Settings}
use Rattle.settings.specs.Legal.{Legal}
use Rattle.settings.specs.Layout.{layout_of}
use Rattle.keys.specs.Key.{entry, list_number}
use Rattle.settings.specs.theory.Proper.{layout_proper}
use Rattle.keys.specs.theory.Keys.{entry_below}
use Rattle.table.specs.State.{State}
use Rattle.table.specs.Done.{Answered}
use Rattle.table.specs.Find.{find_followed, find_in}
use Rattle.table.specs.Enter.{enter_followed, enter_in}
use Rattle.table.specs.Relabel.{relabel_followed, relabel_in}
use Rattle.table.specs.Delete.{delete_followed, delete_in}
use Rattle.table.specs.Calls.{Verb, find, enter, relabel, delete, list_call, verb_due}
use Rattle.table.specs.theory.Formed.{Formed}
use Rattle.table.specs.theory.FormedCalls.{Holds, holds_none, enter_formed, relabel_formed, delete_formed}
use Rattle.plain_set.specs.theory.Rep.{Stores}
use Rattle.plain_set.specs.theory.Change.{rep_content, append_refused, append_done, store_done, delete_done}
use Rattle.plain_set.specs.theory.Keys.{slot_fits, in_table}
use Rattle.settings.specs.theory.Dues.{NoneDue}
use Rattle.plain_set.proofs.Refusals.{label_below}
use Rattle.plain_set.specs.theory.OneList.{Told, told, place_in, slot_for, row_told, row_after}
use Rattle.plain_set.proofs.Lists.{row_of, holds_key, place_there, is_full, lists_told, lists_after}

-- what a call with legal inputs writes, on any formed state, is formed
pub call_formed : (s : Settings) → Legal s → (k : ℕ) → k < 2 ^ s.w → {st : State} → Formed (layout_of s) st
    → (v : Verb) → NoneDue (verb_due s v) → Holds (Formed (layout_of s)) (list_call (layout_of s) st (list_number s k) (entry s k) v).after
unfolding list_call
call_formed s legal k ok f find d = holds_none
call_formed s legal k ok f (enter l) d =
    enter_formed (layout_of s) (layout_proper s legal) (list_number s k) (entry s k) l f (in_table s legal k ok)
    (unfold layout_of in (entry_below s k)) (unfold layout_of in (label_below s l d))
call_formed s legal k ok f (relabel l) d =
    relabel_formed (layout_of s) (layout_proper s legal) (list_number s k) (entry s k) l f (in_table s legal k ok)
    (unfold layout_of in (entry_below s k)) (unfold layout_of in (label_below s l d))
call_formed s legal k ok f delete d =
    delete_formed (layout_of s) (layout_proper s legal) (list_number s k) (entry s k) f (in_table s legal k ok)

-- the state after a call on st
abbrev pub state_after : State → Option State → State
state_after st none = st
state_after st (some u) = u

-- the answer a to a call on st, beside what the lists tell and the lists after it
pub record Acts (s : Settings) (st : State) (a : Answered) (x : Told) (U : List (List ℕ)) : Type 0 where
  pub tells : told a.answer ≡ x
  pub stores : Stores (layout_of s) (state_after st a.after) U

module _ (s : Settings) (legal : Legal s) {st : State} {T : List (List ℕ)} (o : Stores (layout_of s) st T) (k : ℕ) (ok : k < 2 ^ s.w) where
  below : list_number s k < (layout_of s).lists
  below = in_table s legal k ok

  -- the lists as they are
  kept : Stores (layout_of s) st (set T (list_number s k) (row_of s T k))
  kept = subst (Stores (layout_of s) st) (sym (set-get_or T (list_number s k) [])) o

  pub call_acts : (v : Verb) → NoneDue (verb_due s v)
      → Acts s st (list_call (layout_of s) st (list_number s k) (entry s k) v) (lists_told s T k v) (lists_after s T k v)
  unfolding list_call find_in find_followed enter_in enter_followed relabel_in relabel_followed delete_in delete_followed row_told row_after
  call_acts find d =
      rw (rep_content o.rep (list_number s k) below)
      (cases (holds_key s T k) (λ e. rw e record { tells = refl; stores = kept }) (λ e. rw e record { tells = refl; stores = kept }))
  call_acts (enter l) d =
      let fits = slot_fits s k l (label_below s l d) in
      rw (rep_content o.rep (list_number s k) below)
      (cases (holds_key s T k)
      (λ e. rw e record { tells = refl; stores = kept })
      (λ e.
      cases (is_full s T k)
      (λ q.
      rw (e, append_refused (layout_proper s legal) o.rep (list_number s k) below (slot_for s k l) fits q, q)
      record { tells = refl; stores = kept })
      (λ q.
      let c = append_done (layout_proper s legal) o.rep (list_number s k) below (slot_for s k l) fits q in
      rw (e, c.is, q) record { tells = refl; stores = record { B = set o.B (list_number s k) c.cs; fs = c.ns; rep = c.rep } })))
  call_acts (relabel l) d =
      rw (rep_content o.rep (list_number s k) below)
      (cases (holds_key s T k)
      (λ e.
      let p : ℕ = place_in s k (row_of s T k) in
      let c =
      store_done (layout_proper s legal) o.rep (list_number s k) below p (slot_for s k l) (place_there s T k e)
      (slot_fits s k l (label_below s l d)) in
      rw e record { tells = refl; stores = record { B = o.B; fs = o.fs; rep = c } })
      (λ e. rw e record { tells = refl; stores = kept }))
  call_acts delete d =
      rw (rep_content o.rep (list_number s k) below)
      (cases (holds_key s T k)
      (λ e.
      let p : ℕ = place_in s k (row_of s T k) in
      let c = delete_done (layout_proper s legal) o.rep (list_number s k) below p (place_there s T k e) in
      rw (e, c.is) record { tells = refl; stores = c.stores })
      (λ e. rw e record { tells = refl; stores = kept }))
