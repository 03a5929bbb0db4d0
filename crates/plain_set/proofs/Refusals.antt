-- A call's refusals for its inputs, which table and set share, in their order: one is due, or none is. Which calls the set refuses that have legal
-- inputs. And find, and any refusal, leave the set as it is.
use Rattle.std.specs.Prelude.{◌≡◌, refl, Bool, true, ◌&&◌, List, [], ◌∷◌, ℕ, ◌^◌, ◌≤◌, ◌<◌, length, ltb, Err}
use Rattle.std.proofs.Common.{sym, ap, ◌∙◌, arith, leb-true, ltb-true}
use Rattle.std.proofs.Math.Option.{Option, none, some}
use Rattle.laws.specs.Cases.{never}
use Rattle.settings.specs.declared.settings.Settings.{Settings}
use Rattle.settings.specs.declared.refusal.Refusal.{Refusal}
use Rattle.settings.specs.Sizes.{table_bytes}
use Rattle.settings.specs.Layout.{layout_of}
use Rattle.settings.specs.Refusal.{number_of}
use Rattle.settings.specs.Due.{Due, unless_due, label_due}
use Rattle.settings.specs.Reply.{Reply, called}
use Rattle.settings.specs.theory.Dues.{NoneDue, by_dues, passed}
use Rattle.keys.specs.declared.Key.{Key}
use Rattle.keys.specs.Key.{key_number, list_number, entry}
use Rattle.plain_set.specs.Rebuilt.{Pair}
use Rattle.table.specs.Done.{replied}
use Rattle.table.specs.Calls.{Verb, find, enter, relabel, delete, list_call, verb_due, held, key_call}
use Rattle.table.specs.Answer as table
use Rattle.table.specs.declared.answers.Word.{Word}
use Rattle.table.specs.theory.FormedCalls.{either}
use Rattle.plain_set.specs.OwnRefusal.{OwnRefusal, known, no_block}
use Rattle.plain_set.specs.Set.{Given, key, text, key_given, Call, call, Answer, said, refused, lookup, no_vacant_slot, list_length, all_blocks_used, Step, step, find_step, enter_step, relabel_step, delete_step, key_step, call_due, set_step}

-- The same refusals in the same order --------------------------------------------------------------------------------------

-- what a call comes to whose inputs are legal
abbrev pub legal_call : Settings → List ℕ → Verb → ℕ → Reply table.Answer
legal_call s t v k = replied (layout_of s) t (list_call (layout_of s) (held s t) (list_number s k) (entry s k) v)

-- the table refuses a call with a key as the set does
pub key_refused : (s : Settings) (t : List ℕ) (v : Verb) (k : Key)
    → key_call s t v k ≡ called Err t (call_due s (length t) (call v (key (key_number k)))) (legal_call s t v (key_number k))
unfolding key_call
key_refused s t v k = refl

-- clause 8.3: the first that is due is the lowest that is due, since their numbers rise
abbrev pub rising : ℕ → List Due → Bool
rising n [] = true
rising n (d ∷ ds) = ltb n (number_of d.why) && rising (number_of d.why) ds

pub lowest_first : (s : Settings) (n : ℕ) (v : Verb) (g : Given) → rising 0 (call_due s n (call v g)) ≡ true
lowest_first s n find (key k) = refl
lowest_first s n find (text none) = refl
lowest_first s n find (text (some k)) = refl
lowest_first s n (enter l) (key k) = refl
lowest_first s n (enter l) (text none) = refl
lowest_first s n (enter l) (text (some k)) = refl
lowest_first s n (relabel l) (key k) = refl
lowest_first s n (relabel l) (text none) = refl
lowest_first s n (relabel l) (text (some k)) = refl
lowest_first s n delete (key k) = refl
lowest_first s n delete (text none) = refl
lowest_first s n delete (text (some k)) = refl

-- Legal inputs --------------------------------------------------------------------------------------------------------

-- refusal 6 is not due
pub label_below : (s : Settings) (l : ℕ) → NoneDue (label_due s l ∷ []) → l < 2 ^ s.val
label_below s l d = ltb-true l (2 ^ s.val) (passed d.0)

-- none of refusals 1 to 6 is due: the key is one of the table's, and the lent bytes have room for it
pub record LegalInputs (s : Settings) (n : ℕ) (v : Verb) (k : ℕ) : Type 0 where
  pub room : table_bytes s ≤ n
  pub key : k < 2 ^ s.w
  pub label : NoneDue (verb_due s v)

pub none_due : (s : Settings) (n : ℕ) (v : Verb) (g : Given) → NoneDue (call_due s n (call v g)) → LegalInputs s n v (key_given g)
none_due s n v (key k) d =
    record { room = leb-true (table_bytes s) n (passed d.1.0); key = ltb-true k (2 ^ s.w) (passed d.1.1.0); label = d.1.1.1 }
none_due s n v (text none) d = never (sym d.1.1.1.0)
none_due s n v (text (some k)) d =
    record { room = leb-true (table_bytes s) n (passed d.1.0); key = ltb-true k (2 ^ s.w) (passed d.1.1.1.0); label = d.1.1.1.1 }

-- The set's own refusals -----------------------------------------------------------------------------------------------------

module _ (s : Settings) (ps : List Pair) where
  -- if the answer is a refusal, then one of these
  abbrev Refuses : Verb → ℕ → Answer → Type 0
  Refuses v k a = (r : Refusal) → a ≡ refused r → OwnRefusal s ps v k r

  refuses_with : (v : Verb) (k : ℕ) (why : Refusal) → OwnRefusal s ps v k why → Refuses v k (refused why)
  refuses_with v k why w r q = let z : why ≡ r = cc in rw (sym z) w

  accepts : (v : Verb) (k : ℕ) (w : Word) (l : ℕ) → Refuses v k (said w l)
  accepts v k w l r q = absurd (let z : ◌≡◌ {A = ℕ} 0 1 = cc in omega arith)

  find_refuses : (k : ℕ) (o : Option ℕ) → Refuses find k (find_step s ps o).answer
  find_refuses k none = accepts find k _ _
  find_refuses k (some m) = accepts find k _ _

  enter_refuses : (l k : ℕ) (o : Option ℕ) → lookup k ps ≡ o → Refuses (enter l) k (enter_step s ps k l o).answer
  enter_refuses l k none h =
      either (λ (a : Step). Refuses (enter l) k a.answer) (no_vacant_slot s (list_length s ps (list_number s k)) && all_blocks_used s ps)
      (λ f. refuses_with (enter l) k _ (no_block l k h f))
      (λ f. accepts (enter l) k _ _)
  enter_refuses l k (some m) h = refuses_with (enter l) k _ (known l k m h)

  relabel_refuses : (l k : ℕ) (o : Option ℕ) → Refuses (relabel l) k (relabel_step s ps k l o).answer
  relabel_refuses l k none = accepts (relabel l) k _ _
  relabel_refuses l k (some m) = accepts (relabel l) k _ _

  delete_refuses : (k : ℕ) (o : Option ℕ) → Refuses delete k (delete_step s ps k o).answer
  delete_refuses k none = accepts delete k _ _
  delete_refuses k (some m) = accepts delete k _ _

  key_refuses : (v : Verb) (k : ℕ) → Refuses v k (key_step s ps v k).answer
  key_refuses find k = find_refuses k (lookup k ps)
  key_refuses (enter l) k = enter_refuses l k (lookup k ps) refl
  key_refuses (relabel l) k = relabel_refuses l k (lookup k ps)
  key_refuses delete k = delete_refuses k (lookup k ps)

-- where no refusal is due the call goes on
goes_on : {A : Type 0} (ds : List Due) (refuse : Refusal → A) (on : A) → NoneDue ds → unless_due ds refuse on ≡ on
goes_on [] refuse on n = refl
goes_on (d ∷ ds) refuse on n = rw n.0 (goes_on ds refuse on n.1)

-- clause 8.9: no other call with legal inputs is refused
pub refused_only : (s : Settings) (n : ℕ) (ps : List Pair) (c : Call) (r : Refusal) → NoneDue (call_due s n c) → (set_step s n ps c).answer ≡ refused r
    → OwnRefusal s ps c.verb (key_given c.given) r
unfolding set_step
refused_only s n ps c r d q =
    let on : Step = key_step s ps c.verb (key_given c.given) in
    key_refuses s ps c.verb (key_given c.given) r
    (ap (λ (a : Step). a.answer) (sym (goes_on (call_due s n c) (λ why. step (refused why) ps) on d)) ∙ q)

-- What leaves the set as it is -------------------------------------------------------------------------------------------

-- if the step refuses, the set after it is the one before
abbrev Stays : List Pair → Step → Type 0
Stays ps a = (r : Refusal) → a.answer ≡ refused r → a.after ≡ ps

module _ (s : Settings) (n : ℕ) (ps : List Pair) where
  found_stays : (o : Option ℕ) → (find_step s ps o).after ≡ ps
  found_stays none = refl
  found_stays (some l) = refl

  deleted_stays : (k : ℕ) (o : Option ℕ) → Stays ps (delete_step s ps k o)
  deleted_stays k none r q = refl
  deleted_stays k (some l) r q = absurd (let z : ◌≡◌ {A = ℕ} 0 1 = cc in omega arith)

  entered_stays : (k l : ℕ) (o : Option ℕ) → Stays ps (enter_step s ps k l o)
  entered_stays k l none =
      either (Stays ps) (no_vacant_slot s (list_length s ps (list_number s k)) && all_blocks_used s ps) (λ f r q. refl)
      (λ f r q. absurd (let z : ◌≡◌ {A = ℕ} 0 1 = cc in omega arith))
  entered_stays k l (some m) = λ r q. refl

  relabelled_stays : (k l : ℕ) (o : Option ℕ) → Stays ps (relabel_step s ps k l o)
  relabelled_stays k l none r q = refl
  relabelled_stays k l (some m) r q = absurd (let z : ◌≡◌ {A = ℕ} 0 1 = cc in omega arith)

  key_stays : (v : Verb) (k : ℕ) → Stays ps (key_step s ps v k)
  key_stays find k = λ r q. found_stays (lookup k ps)
  key_stays (enter l) k = entered_stays k l (lookup k ps)
  key_stays (relabel l) k = relabelled_stays k l (lookup k ps)
  key_stays delete k = deleted_stays k (lookup k ps)

  -- clause 8.4: find leaves the set
  pub find_stays : (g : Given) → (set_step s n ps (call find g)).after ≡ ps
  unfolding set_step
  find_stays g =
      by_dues (λ choose. (choose Step (λ why. step (refused why) ps) (key_step s ps find (key_given g))).after ≡ ps) (call_due s n (call find g))
      (λ why. refl) (λ d. found_stays (lookup (key_given g) ps))

  -- whatever the code, the set after a refusal is the one before
  pub refused_stays : (c : Call) (r : Refusal) → (set_step s n ps c).answer ≡ refused r → (set_step s n ps c).after ≡ ps
  unfolding set_step
  refused_stays c =
      by_dues (λ choose. Stays ps (choose Step (λ why. step (refused why) ps) (key_step s ps c.verb (key_given c.given)))) (call_due s n c)
      (λ why r q. refl) (λ d. key_stays c.verb (key_given c.given))
