-- A call with legal inputs on bytes that agree with a set: it answers as the set does, afterwards bytes and set agree again, and of the lists only
-- the key's own is changed, by what it holds.
use Rattle.std.specs.Prelude.{◌≡◌, Bool, cond, List, [], ℕ, ◌^◌, ◌<◌, length, get_or, eqb}
use Rattle.std.proofs.Common.{sym, ap, ◌∙◌, arith, get_or-set_same, get_or-set_other, eqb-true}
use Rattle.std.proofs.Math.Option.{Option, none, some}
use Rattle.std.proofs.lemmas.Bool.{eqb-false}
use Rattle.laws.specs.Cases.{cases}
use Rattle.settings.specs.declared.settings.Settings.{Settings}
use Rattle.settings.specs.Sizes.{lists}
use Rattle.settings.specs.Legal.{Legal}
use Rattle.settings.specs.Layout.{layout_of}
use Rattle.settings.specs.Reply.{Reply}
use Rattle.keys.specs.Key.{list_number}
use Rattle.table.specs.State.{State}
use Rattle.table.specs.Done.{bytes_with}
use Rattle.table.specs.Calls.{Verb, verb_due, held}
use Rattle.plain_set.specs.Rebuilt.{Pair}
use Rattle.table.specs.Answer as table
use Rattle.table.specs.theory.Formed.{Formed, decode_formed}
use Rattle.table.specs.theory.FormedCalls.{Holds, holds_none, holds_some}
use Rattle.plain_set.specs.Set.{Step, key_step}
use Rattle.plain_set.specs.Plain.{plain}
use Rattle.plain_set.specs.theory.Rep.{Stores}
use Rattle.settings.specs.theory.Dues.{NoneDue}
use Rattle.plain_set.proofs.Refusals.{legal_call}
use Rattle.plain_set.specs.theory.OneList.{Told, told, row_told, row_after}
use Rattle.plain_set.proofs.Lists.{row_of, is_full, lists_told, lists_after, Stands, call_agrees}
use Rattle.plain_set.proofs.StateSteps.{state_after, call_formed, call_acts}
use Rattle.plain_set.proofs.Agree.{Agree}
use Rattle.plain_set.proofs.Stored.{agree_written}

-- What a call makes of each list -------------------------------------------------------------------------------------------

-- the key of a call, if it is one of list i
abbrev pub on_list : Settings → ℕ → Option ℕ → Option ℕ
on_list s i none = none
on_list s i (some k) = cond (eqb (list_number s k) i) (some k) none

-- a call that is told x, on a list with the slots es, and fs after it. With a key of the list, the slots say both; none: any other call leaves them
abbrev pub OwnStep : Settings → Verb → Option ℕ → List ℕ → List ℕ → Told → Type 0
OwnStep s v none es fs x = fs ≡ es
OwnStep s v (some k) es fs x = (full : Bool) × (x ≡ row_told s v k es full) × (fs ≡ row_after s v k es full)

-- the key's list is changed, and no other
own_step : (s : Settings) (T : List (List ℕ)) (v : Verb) (k : ℕ) (x : Told) → x ≡ lists_told s T k v → (i : ℕ) → i < length T
    → OwnStep s v (on_list s i (some k)) (get_or T i []) (get_or (lists_after s T k v) i []) x
own_step s T v k x e i h =
    cases (eqb (list_number s k) i)
    (λ q.
    let z : i ≡ list_number s k = sym (eqb-true (list_number s k) i q) in
    rw (q, z) (is_full s T k, e, get_or-set_same T (list_number s k) (row_after s v k (row_of s T k) (is_full s T k)) [] (rw z at h)))
    (λ q. rw q (get_or-set_other T (list_number s k) i (row_after s v k (row_of s T k) (is_full s T k)) [] (λ z. eqb-false (list_number s k) i q (sym z))))

-- the reply r to a call on bytes that hold the lists T, beside a step b of the set; o is the call's key, if its inputs are legal
pub record Follows (s : Settings) (T : List (List ℕ)) (v : Verb) (o : Option ℕ) (r : Reply table.Answer) (b : Step) : Type 0 where
  pub answers : plain r.answer ≡ b.answer
  pub after : List (List ℕ)
  pub agree : Agree s r.bytes after b.after
  -- each list's slots are changed by that list's calls alone
  pub own : (i : ℕ) → i < lists s → OwnStep s v (on_list s i o) (get_or T i []) (get_or after i []) (told r.answer)

-- The call -----------------------------------------------------------------------------------------------------------------

module _ {s : Settings} (right : Legal s) {t : List ℕ} {T : List (List ℕ)} {ps : List Pair} (a : Agree s t T ps) where
  -- the bytes with the state in them that a call leaves
  agree_after : {o : Option State} {U : List (List ℕ)} {qs : List Pair} → Holds (Formed (layout_of s)) o
      → Stores (layout_of s) (state_after (held s t) o) U → Stands s U qs → Agree s (bytes_with (layout_of s) t o) U qs
  agree_after holds_none c w = record { bytes = a.bytes; room = a.room; stores = c; stands = w; fill = a.fill }
  agree_after (holds_some f) c w = agree_written t right a.bytes a.room a.fill f c w

  module _ (k : ℕ) (ok : k < 2 ^ s.w) where
    pub legal_follows : (v : Verb) → NoneDue (verb_due s v) → Follows s T v (some k) (legal_call s t v k) (key_step s ps v k)
    legal_follows v d =
        let c = call_acts s right a.stores k ok v d in
        let w = call_agrees s right T ps a.stands k ok v d in
        record {
          answers = ap (λ (x : Told). x.answer) c.tells ∙ w.answers;
          after = lists_after s T k v;
          agree = agree_after (call_formed s right k ok (decode_formed (layout_of s) t) v d) c.stores w.stands;
          own = λ i h. own_step s T v k _ c.tells i (omega (arith, a.stands.long));
        }
