-- Relabel changes a label, and nothing else.
use Rattle.std.proofs.Math.Path.{◌≡◌, refl}
use Rattle.std.proofs.Common.{sym, ap, ◌∙◌, get_or-set_same, get_or-set_other, eqb-true}
use Rattle.std.specs.Prelude.{true, length, get_or, eqb, ltb, Err, Ok}
use mathlib.Core.List.{List, [], ◌∷◌, map}
use Rattle.std.proofs.Math.Option.{Option}
use Prim.Native.Nat.{ℕ, zero, suc, ◌-◌, ◌^◌, ◌<◌}
use native.Mathlib.Omega.{arith}
use Rattle.std.proofs.Math.ListN.{set}
use Rattle.std.proofs.lemmas.Bool.{eqb-false}
use Rattle.laws.specs.Cases.{cases}
use Rattle.bits.specs.Bytes.{Bytes}
use Rattle.settings.specs.declared.settings.Settings.{Settings}
use Rattle.settings.specs.declared.layout.Layout.{Layout}
use Rattle.settings.specs.Legal.{Legal}
use Rattle.settings.specs.Layout.{layout_of}
use Rattle.settings.specs.Due.{label_due}
use Rattle.settings.specs.Reply.{Reply, reply, called}
use Rattle.settings.specs.theory.Dues.{NoneDue, by_dues}
use Rattle.settings.specs.theory.Proper.{layout_proper}
use Rattle.keys.specs.Key.{list_number, entry}
use Rattle.table.specs.State.{Basic, Overflow, State, empty_basic, absent_block, basic_at, overflow_at, unpack, head_of, rest_of, entry_of}
use Rattle.table.specs.Follow.{Content, last_of, content}
use Rattle.table.specs.Sound as table
use Rattle.table.specs.Store.{slot_in, store_overflow, store_at}
use Rattle.table.specs.Updates.{with_link, with_slot, with_rest}
use Rattle.table.specs.Relabel.{relabel_followed, relabel_in}
use Rattle.table.specs.Calls.{relabel, list_call, held, check_call}
use Rattle.table.specs.theory.Formed.{Formed, decode_formed}
use Rattle.table.specs.theory.FormedCalls.{either, holds_of}
use Rattle.table.specs.theory.Written.{decode_written}
use Rattle.plain_set.specs.Rebuilt.{Pair, slots_of}
use Rattle.plain_set.specs.Set.{Given, key_given, call, call_due}
use Rattle.plain_set.specs.OnlyLabel.{SameCounters, OnlyLabel, RelabelsOnly}
use Rattle.plain_set.specs.theory.Rep.{Links, Chain, Rep}
use Rattle.plain_set.specs.theory.Change.{rep_content, store_done}
use Rattle.plain_set.specs.theory.Keys.{slot_fits, slot_entry, slot_label, in_table}
use Rattle.plain_set.specs.theory.OneList.{place_in, label_in, slot_for}
use Rattle.plain_set.proofs.Lists.{row_of, holds_key, place_there, place_entry}
use Rattle.plain_set.proofs.Refusals.{legal_call, label_below, none_due}
use Rattle.plain_set.proofs.StateSteps.{call_formed}
use Rattle.plain_set.proofs.Agree.{Agree}
use Rattle.plain_set.proofs.Stored.{bits_room}
use Rattle.plain_set.proofs.Start.{sound_agree}
use Rattle.plain_set.specs.theory.Answers.{sound_opened}
use Rattle.table.specs.Answer.{Answer}
use Rattle.table.specs.theory.Answers.{said_same}

-- The free chain ---------------------------------------------------------------------------------------------------------

abbrev link_of : Overflow → ℕ
link_of o = o.link

module _ (g : Layout) (os us : List Overflow) where
  -- blocks that are linked, where the same free chain stands before and after
  linked_same : (f : ℕ) (fs : List ℕ) → Links g os f fs → Links g us f fs → (cs : List ℕ) → table.Linked g os f cs → table.Linked g us f cs
  linked_same f [] a b [] h = ap link_of b
  linked_same f [] a b (c ∷ cs) h =
      let z : c ≡ f = sym h.0 ∙ ap link_of a in
      (ap link_of b ∙ sym z, h.1, rw z (linked_same f [] a b cs (rw z at h.2)))
  linked_same f (n ∷ ns) a b [] h = ap link_of b.0 ∙ sym (ap link_of a.0) ∙ h
  linked_same f (n ∷ ns) a b (c ∷ cs) h =
      let z : c ≡ n = sym h.0 ∙ ap link_of a.0 in
      (ap link_of b.0 ∙ sym z, h.1, rw z (linked_same n ns a.1 b.1 cs (rw z at h.2)))

  start_same : (e f : ℕ) (fs : List ℕ) → Chain g os e fs → Chain g us f fs → f ≡ e
  start_same e f [] a b = b ∙ sym a
  start_same e f (n ∷ ns) a b = b.0 ∙ sym a.0

  chain_same : (e f : ℕ) (fs : List ℕ) → Chain g os e fs → Chain g us f fs → (cs : List ℕ) → table.Chain g os e cs → table.Chain g us f cs
  chain_same e f fs a b [] h = start_same e f fs a b ∙ h
  chain_same e f [] a b (c ∷ cs) h = absurd (omega arith)
  chain_same e f (n ∷ ns) a b (c ∷ cs) h =
      let z : c ≡ n = sym h.0 ∙ a.0 in
      (b.0 ∙ sym z, h.1, rw z (linked_same n ns a.1 b.1 cs (rw z at h.2)))

-- Counters -----------------------------------------------------------------------------------------------------------------

-- what the new element has as the old one had it, all elements have as before
kept_at : {A B : Type 0} (f : A → B) (xs : List A) (i j : ℕ) (v d : A) → f v ≡ f (get_or xs i d) → f (get_or (set xs i v) j d) ≡ f (get_or xs j d)
kept_at f [] i j v d e = refl
kept_at f (x ∷ xs) zero zero v d e = e
kept_at f (x ∷ xs) zero (suc j) v d e = refl
kept_at f (x ∷ xs) (suc i) zero v d e = refl
kept_at f (x ∷ xs) (suc i) (suc j) v d e = kept_at f xs i j v d e

abbrev of_basic : Basic → ℕ
of_basic b = b.counter

abbrev of_overflow : Overflow → ℕ
of_overflow o = o.counter

module _ (g : Layout) where
  overflow_counters : (os : List Overflow) (bs : List ℕ) (q x j : ℕ) → (overflow_at (store_overflow g os bs q x) j).counter ≡ (overflow_at os j).counter
  unfolding store_overflow
  overflow_counters os [] q x j = refl
  overflow_counters os (b ∷ bs) q x j =
      either (λ (us : List Overflow). (overflow_at us j).counter ≡ (overflow_at os j).counter) (ltb q g.sio)
      (λ e. kept_at of_overflow os b j (with_slot q x (overflow_at os b)) absent_block refl)
      (λ e. overflow_counters os bs (q - g.sio) x j)

  store_counters : (st : State) (i : ℕ) (bs : List ℕ) (p x : ℕ) → SameCounters st (store_at g st i bs p x)
  unfolding store_at
  store_counters st i [] p x = λ j. (kept_at of_basic st.basic i j (slot_in g p x (basic_at st.basic i)) empty_basic refl, refl)
  store_counters st i (c ∷ cs) p x =
      let o : Overflow = overflow_at st.overflow (last_of c cs) in
      let b : Basic = basic_at st.basic i in
      let es : List ℕ = set (unpack g o.link b.rest) p x in
      either (SameCounters st) (ltb p g.sib)
      (λ e j. (
        kept_at of_basic st.basic i j (with_rest (rest_of g es) b) empty_basic refl,
        kept_at of_overflow st.overflow (last_of c cs) j (with_link (head_of g es) o) absent_block refl,
      ))
      (λ e j. (refl, overflow_counters st.overflow (c ∷ cs) (p - g.sib) x j))

-- The call ---------------------------------------------------------------------------------------------------------------

module _ {s : Settings} (right : Legal s) {t : List ℕ} {T : List (List ℕ)} {ps : List Pair} (a : Agree s t T ps) (k : ℕ) (ok : k < 2 ^ s.w) (l : ℕ)
    (d : NoneDue (label_due s l ∷ [])) where
  abbrev g : Layout
  g = layout_of s

  abbrev i : ℕ
  i = list_number s k

  abbrev es : List ℕ
  es = row_of s T k

  abbrev p : ℕ
  p = place_in s k es

  abbrev x : ℕ
  x = slot_for s k l

  -- the slot stored in the place of the key's entry
  abbrev u : State
  u = store_at g (held s t) i (get_or a.stores.B i []) p x

  store_only : holds_key s T k ≡ true → OnlyLabel g (held s t) u i (entry s k) p (label_in s k es) l
  store_only e =
      let r : Rep g (held s t) T a.stores.B a.stores.fs = a.stores.rep in
      let below : i < g.lists = in_table s right k ok in
      let place : p < length es = place_there s T k e in
      let high : l < 2 ^ s.val = label_below s l d in
      let q : Rep g u (set T i (set es p x)) a.stores.B a.stores.fs =
      store_done (layout_proper s right) r i below p x place (slot_fits s k l high) in
      record {
        start = start_same g (held s t).overflow u.overflow (held s t).free u.free a.stores.fs r.chain q.chain;
        chain = chain_same g (held s t).overflow u.overflow (held s t).free u.free a.stores.fs r.chain q.chain;
        counters = store_counters g (held s t) i (get_or a.stores.B i []) p x;
        others = λ j h ne. rw (rep_content q j h, rep_content r j h, get_or-set_other T i j (set es p x) [] ne);
        list = record { blocks = get_or a.stores.B i []; slots = es };
        slot = x;
        had = rep_content r i below;
        has = rw (rep_content q i below, get_or-set_same T i (set es p x) [] (omega (arith, r.lists)));
        place = place;
        old = (place_entry s T k e, refl);
        new = (slot_entry s k l high, slot_label s k l high);
      }

  store_formed : holds_key s T k ≡ true → Formed g u
  unfolding list_call relabel_in relabel_followed
  store_formed e =
      holds_of (call_formed s right k ok (decode_formed g t) (relabel l) d)
      (rw (rep_content a.stores.rep i (in_table s right k ok), e) refl)

  -- the call with legal inputs
  pub legal_relabel : RelabelsOnly s t k l (legal_call s t (relabel l) k)
  unfolding list_call relabel_in relabel_followed
  legal_relabel m n slot =
      rw (rep_content a.stores.rep i (in_table s right k ok))
      (cases (holds_key s T k)
      (λ e.
      rw (e, decode_written g (layout_proper s right) t (store_formed e) (bits_room s t a.room))
      (λ q.
      let same = said_same q in
      let was : label_in s k es ≡ m = same.label in
      let last : n ≡ suc p = sym same.compared in
      let place : n - 1 ≡ p = omega arith in
      (omega arith, rw place (rw was at (store_only e)))))
      (λ e. rw e (λ q. absurd (let w = (said_same q).word in let z : ◌≡◌ {A = ℕ} 0 1 = cc in omega arith))))

-- On a table that check finds sound, with whatever inputs ------------------------------------------------------------------

module _ (s : Settings) (t m : List ℕ) (bytes : Bytes t) (sound : (check_call s t m).answer ≡ Ok true) (l : ℕ) where
  -- with a key or a text
  pub given_relabel : (o : Given)
      → RelabelsOnly s t (key_given o) l
      (called Err t (call_due s (length t) (call (relabel l) o)) (legal_call s t (relabel l) (key_given o)))
  given_relabel o =
      let c = sound_opened s t m sound in
      let a = (sound_agree s c.0.right t bytes c.0.room c.1).1 in
      by_dues (λ choose.
      RelabelsOnly s t (key_given o) l
      (choose (Reply Answer) (λ why. reply (Err why) t) (legal_call s t (relabel l) (key_given o))))
      (call_due s (length t) (call (relabel l) o))
      (λ why was n slot q. absurd (let z : ◌≡◌ {A = ℕ} 0 1 = cc in omega arith))
      (λ d.
      let w = none_due s (length t) (relabel l) o d in
      legal_relabel c.0.right a (key_given o) w.key l w.label)

-- every list has the same entries in the same places
pub entries_stay : {g : Layout} {st u : State} {i e p was now : ℕ} → OnlyLabel g st u i e p was now → (j : ℕ) → j < g.lists
    → map (entry_of g) (slots_of (content g u j)) ≡ map (entry_of g) (slots_of (content g st j))
entries_stay {g} {st} {u} {i} {e} {p} w j h =
    cases (eqb j i)
    (λ q.
    rw (eqb-true j i q, w.had, w.has)
    (same w.list.slots p w.slot w.place (w.new.0 ∙ sym w.old.0)))
    (λ q. ap (λ (o : Option Content). map (entry_of g) (slots_of o)) (w.others j h (eqb-false j i q)))
  where
    same : (es : List ℕ) (p x : ℕ) → p < length es → entry_of g x ≡ entry_of g (get_or es p 0) → map (entry_of g) (set es p x) ≡ map (entry_of g) es
    same [] p x l z = absurd (omega arith)
    same (y ∷ es) zero x l z = ap (◌∷ map (entry_of g) es) z
    same (y ∷ es) (suc p) x l z = ap (entry_of g y ∷◌) (same es p x (omega arith) z)
