-- Delete of a key: what find answered decides what it comes to.
use Rattle.std.specs.Prelude.{Ok, Err, is_ok, ⊤}
use Rattle.std.specs.declared.result.Result.{Result}
use mathlib.Core.Path.{◌≡◌, refl, sym, ap, ap₂, subst, ◌∙◌}
use mathlib.Core.Bool.{Bool, true, false, cond}
use mathlib.Core.List.{List}
use mathlib.Core.Option.{some}
use Prim.Native.Nat.{ℕ, ◌-◌, ◌<◌}
use native.Mathlib.Omega.{arith}
use lib.ListN.{length}
use borrow.Author.Tests.{ltb-true}
use Rattle.bits.specs.Bytes.{Bytes}
use Rattle.settings.specs.declared.settings.Settings.{Settings}
use Rattle.settings.specs.declared.layout.Layout.{Layout}
use Rattle.settings.specs.declared.refusal.Refusal.TheVariants as refusal
use Rattle.settings.specs.Reply.{Gives}
use Rattle.keys.specs.declared.Key.{Key}
use Rattle.keys.specs.Key.{key_number}
use Rattle.table.specs.State.{State}
use Rattle.table.specs.Decode.{decode}
use Rattle.table.specs.Find.{position, find_in}
use Rattle.table.specs.Done.{damage, done, unchanged, answered, replied}
use Rattle.table.specs.Delete.{delete_followed, delete_in}
use Rattle.table.specs.Calls.{list_call, delete, key_call}
use Rattle.table.specs.Answer.{said, Answer}
use Rattle.table.specs.declared.answers.Said.{Said}
use Rattle.table.specs.declared.answers.Word.{Word}
use Rattle.table.specs.declared.answers.Word.TheVariants as word
use Rattle.table.specs.declared.damage.Damage.{Damage}
use Rattle.table_store.specs.Stores.{Stored}
use Rattle.table_store.specs.Places.{Placed}
use Rattle.table_store.specs.theory.StoreLaws.{stored_none, stored_as, stored_written}
use Rattle.table_find.specs.declared.Sought.{Sought}
use Rattle.table_find.specs.theory.SoughtLaws.{SoughtIn}
use Rattle.table_find.specs.theory.Helds.{Other, find_held, other_stays}
use Rattle.table_delete.specs.DeleteSteps.{removal_of, removal, Removed}

-- ---- on a list

-- the n-th slot holds the entry, with the label l
pub record Found (g : Layout) (st : State) (i e l n : ℕ) : Type 0 where
  pub some_compared : 0 < n
  pub placed : Placed g st i (n - 1)
  pub goes : delete_in g st i e ≡ answered (said word.Gone l n 0) (removal g st i (n - 1))

module _ (g : Layout) (st : State) (i e : ℕ) where
  pub held_goes : (l n x : ℕ) → find_in g st i e ≡ said word.Held l n x → Found g st i e l n
  unfolding delete_in delete_followed removal
  held_goes l n x q =
      let w = find_held g st i e l n x q in
      let es = w.followed.slots in
      let k : n - 1 ≡ position g e es = omega (arith, w.place) in
      let m = ltb-true (position g e es) (length es) w.held in
      record {
        some_compared = omega (arith, w.place);
        placed = record { followed = w.followed; is = w.is; within = omega arith };
        goes =
            rw (w.is, w.held)
            (ap₂ (λ (x y : ℕ). answered (said word.Gone x y 0) (removal_of g st i (position g e es) (some w.followed))) w.label w.place
            ∙ ap (λ (y : ℕ). answered (said word.Gone l n 0) (removal_of g st i y (some w.followed))) (sym k));
      }

  -- what find answers else, delete does too
  pub delete_stays : Other (find_in g st i e) → delete_in g st i e ≡ unchanged (find_in g st i e)
  unfolding delete_in delete_followed
  delete_stays h = other_stays g st i e (delete_followed g st i e) refl (λ v p. rw p) h

-- ---- by key, in a table that was opened for it

module _ {s : Settings} {t : List ℕ} {key : Key} {g : Layout} {v : Sought} (S : SoughtIn s t key g v) where
  abbrev list : ℕ
  list = v.place.list.0

  abbrev entry : ℕ
  entry = key_number v.place.entry

  call_is : key_call s t delete key ≡ replied g t (delete_in g (decode g t) list entry)
  unfolding list_call
  call_is = S.call_is delete

  pub other_gives : (a : Answer) → v.found ≡ a → Other a → Gives (key_call s t delete key) a t
  other_gives a e h =
      let is : a ≡ find_in g (decode g t) list entry = sym e ∙ S.found_is in
      rw (call_is, delete_stays g (decode g t) list entry (subst Other is h)) (record { answer = is; bytes = refl })

  -- the entry was found
  module _ {r : Said} (e : v.found ≡ Ok r) (w : r.word ≡ word.Held) where
    pub found : Found g (decode g t) list entry r.label r.compared
    found =
        held_goes g (decode g t) list entry r.label r.compared r.slot
        (sym S.found_is ∙ e ∙ ap (λ (x : Word). said x r.label r.compared r.slot) w)

    pub some_compared : 0 < r.compared
    some_compared = found.some_compared

    pub placed : Placed g (decode g t) list (r.compared - 1)
    placed = found.placed

    -- and was removed, unless its block could not be freed
    module _ (y : Bytes t) {u : List ℕ} (x : Result ⊤ Damage) (R : Removed g t u list (r.compared - 1) (is_ok x)) where
      ends : (b : Bool) → is_ok x ≡ b
          → key_call s t delete key ≡ replied g t (answered (said word.Gone r.label r.compared 0) (cond b (done R.state) damage))
      ends b q =
          call_is
          ∙ ap (replied g t)
          (found.goes ∙ ap (answered (said word.Gone r.label r.compared 0)) (R.is ∙ ap (λ (c : Bool). cond c (done R.state) damage) q))

      stored : (b : Bool) → is_ok x ≡ b → Stored g t u (cond b R.state (decode g t))
      stored b q = stored_as (cond b R.state (decode g t)) R.stored (ap (λ (c : Bool). cond c R.state (decode g t)) q)

      pub gone_gives : {z : ⊤} → x ≡ Ok z → Gives (key_call s t delete key) (said word.Gone r.label r.compared 0) u
      gone_gives q =
          let k = ap is_ok q in
          rw (ends true k) (record { answer = refl; bytes = stored_written S.table y (stored true k) })

      pub damage_gives : {d : Damage} → x ≡ Err d → Gives (key_call s t delete key) (Err refusal.Damage) u
      damage_gives q =
          let k = ap is_ok q in
          rw (ends false k)
          (record {
            answer = refl;
            bytes = stored_written S.table y (stored false k) ∙ sym (stored_written S.table y (stored_none S.table));
          })
